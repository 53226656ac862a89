use Rattle.std.proofs.Common.{◌≡◌, ◌^◌, true, take, min, ◌&&◌}
use Rattle.std.specs.Prelude.{nat_le}
use Rattle.std.specs.List.{list_all}
use Rattle.std.specs.Str.Parse.{digits_value}
use Rattle.jr_constraint.proofs.ranges.size_of.Given as goal

abbrev pub invariant-loop-byte : goal.invariant-loop-byte
invariant-loop-byte l = record {
  size : l.size ≡ min (2 ^ 64) (digits_value 10 (take l.byte-index l.digits));
  digits : list_all (λ c. nat_le 48 c && nat_le c 57) (take l.byte-index l.digits) ≡ true;
}
