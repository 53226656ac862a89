-- The reply for want of memory has 8 bytes.
use Rattle.std.proofs.Common.{◌≡◌, ℕ, ◌≤◌, length, refl, ap, arith}
use Rattle.std.specs.Prelude.{codes, Option, None, Some}
use Rattle.std.specs.Fmt.{digits}
use Rattle.serde_json.proofs.OnLiterals.{serde_json_on_literals}
use Rattle.jcr_trans.specs.Texts.{memory_text}
use Rattle.oak_port.specs.Ports.{HasRoom}
use Rattle.jcr_steps.specs.declared.limits.TheConstants.{COMMIT_REPLY_BYTES}

-- the text that is said for want of memory
pub memory_reply_is : memory_text ≡ codes "no 16 []"
unfolding digits serde_json_on_literals
memory_reply_is = refl

pub memory_room : (o : Option ℕ) → HasRoom o COMMIT_REPLY_BYTES → HasRoom o (length memory_text)
memory_room None h = h
memory_room (Some n) h = let a : COMMIT_REPLY_BYTES ≤ n = h in let b : length memory_text ≡ 8 = ap length memory_reply_is in omega arith
