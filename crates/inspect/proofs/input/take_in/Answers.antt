-- Where it is known what the reader has left, its front is what is read, and the cut leaves that.
use Rattle.std.proofs.Common.{◌≡◌, ℕ, List, [], ◌++◌, take, Option, Some, None, IfSome, ap, arith}
use Rattle.std.specs.Option.{option_map}
use Rattle.std.proofs.lemmas.List.{take-take}
use Rattle.inspect.proofs.input.take_in.Goals as goal

-- the front of what is left, read behind nothing and cut at the same place
front : (k : ℕ) (left known : Option (List ℕ)) (start got kept : List ℕ) → left ≡ known → start ≡ [] → IfSome (option_map (take k) left) (λ xs. got ≡ start ++ xs) → kept ≡ take k got → IfSome known (λ given. kept ≡ take k given)
front k left None start got kept l s h e = tt
front k (Some xs) (Some given) start got kept l s h e = let t = take-take k k given (omega arith) in cc
front k None (Some given) start got kept l s h e = absurd (cc)

pub returns-clause-front : goal.returns-clause-front
returns-clause-front g c =
    front 34532 _ _ _ _ _ (ap (λ (r : _). g.R.Read.remaining r.now) c.take.ensures.inner) c.new-bytes.ensures.items
    (rw c.take.ensures.limit at c.in_ok-read_to_end.ensures.bytes) c.truncate.ensures.items
