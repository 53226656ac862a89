use Rattle.std.proofs.Common.{◌≡◌, ℕ, ◌-◌, List, [], length, take, drop, subst, arith}
use Rattle.std.proofs.lemmas.List.{append-nil, nil_from_length, take_rest}
use Rattle.cnd_pieces.specs.Pieces.{ArePieces}
use Rattle.cnd_pieces.specs.Tokens.{gap_size}
use Rattle.cnd_pieces.specs.declared.context.Context.TheVariants.{Elsewhere}
use Rattle.cnd_pieces.proofs.Further.{left_on, read_on}
use Rattle.cnd_pieces.proofs.pieces.pieces_of.Goals as goal

pub returns : goal.returns
returns c =
    let none : c.loop-rest.rest.now ≡ [] = nil_from_length _ (let below = c.in_default.len_below in omega arith) in
    subst (ArePieces Elsewhere (gap_size c.args.text.now) (drop (gap_size c.args.text.now) c.args.text.now)) (append-nil _) (c.loop-rest.invariant.pieces [] none)

pub loop-rest-preserved : goal.loop-rest-preserved
loop-rest-preserved c =
    let bytes : List ℕ = c.loop-rest.rest.now in
    let size : ℕ = c.in-Some.size in
    let more : List ℕ = take (length bytes - size) (drop size bytes) in
    let behind : more ≡ drop size bytes = take_rest bytes size in
    record {
      left = left_on c.loop-rest.at size c.gap_size-gap.result (length c.args.text.now) bytes more c.loop-rest.invariant.left c.in-Some.ensures.within.1 behind c.gap_size-gap.ensures.within;
      pieces = read_on (ArePieces Elsewhere (gap_size c.args.text.now) (drop (gap_size c.args.text.now) c.args.text.now))
          c.loop-rest.context c.after-context.result c.is_behind_less.result c.loop-rest.at size c.gap_size-gap.result bytes more c.in-Some.kind c.in_ok-says.says c.loop-rest.pieces.items c.push-in-len1-up.new.self.items
          c.is_behind_less.ensures c.in-Some.ensures.token c.in_ok-says.ensures c.after-context.ensures c.in_ok-push-2.ensures.items behind c.gap_size-gap.ensures.size c.loop-rest.invariant.pieces;
    }
