use Rattle.std.specs.Str.Iter.{chars_rest}
use Rattle.std.specs.String.{string_bytes}
use Rattle.cnd_print.proofs.Escapes.{character_put, key_put}
use Rattle.cnd_print.proofs.printing.put_escaped.Goals as goal

pub loop-c-preserved : goal.loop-c-preserved
loop-c-preserved c = (
  tt,
  character_put (string_bytes c.loop-c.out) (string_bytes c.put_character.new.out) (string_bytes c.args.out.now) c.args.text.now (chars_rest c.loop-c.c-iterator) (chars_rest c.next.new.self) c.in-Some.c
      c.loop-c.invariant.1 c.in-Some.ensures.steps.0 c.in_ok-put_character.ensures,
)

pub returns : goal.returns
returns c = key_put (string_bytes c.loop-c.out) (string_bytes c.args.out.now) c.args.text.now (chars_rest c.loop-c.c-iterator) c.loop-c.invariant.1 c.in-None.ensures.steps.0.0
