mod Typing
mod Rising
