use Rattle.std.proofs.Common.{arith}
use Rattle.jr_rev.proofs.Hexadecimal.{hexadecimal_digit, hexadecimal_more, put_more}
use Rattle.jr_rev.proofs.numbers.+put_number.Goals as goal
use Rattle.jr_rev.proofs.numbers.+put_number.Goals.{then-number-ge16, else-number-ge16}

pub returns-clause-bytes : goal.returns-clause-bytes
returns-clause-bytes t c =
    elim c.if-number-ge16.branch [
      | then-number-ge16 w ↦
          (let digits = hexadecimal_more c.args.number _ w.if-number-ge16.true (omega arith) c.hex_digit.ensures.digit c.hex_digit.ensures.value in
          put_more _ _ _ _ _ _ w.put_number.ensures.bytes (rw (← w.text-is) (c.push.ensures.ascii c.hex_digit.ensures.ascii)) digits)
      | else-number-ge16 w ↦
          (let digits = hexadecimal_digit c.args.number _ w.if-number-ge16.false c.hex_digit.ensures.digit c.hex_digit.ensures.value in
          rw digits (rw (← w.text-is) (c.push.ensures.ascii c.hex_digit.ensures.ascii)))
    ]
