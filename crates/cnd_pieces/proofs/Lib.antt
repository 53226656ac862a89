mod Further
mod Gaps
