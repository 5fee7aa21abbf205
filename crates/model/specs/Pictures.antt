-- Pictures: which facts hold in one, and what it is made from.
use Rattle.std.specs.Prelude.{◌≡◌, ℕ, zero, suc, ◌/◌, ◌%◌, ◌^◌, ◌<◌, ◌≤◌, Bool, cond, not, ◌&&◌, ◌||◌, List, [], ◌∷◌, ◌++◌, Some, None, Option, ◌==◌, slice_index}
use Rattle.model.specs.declared.fact.Fact.{Fact}
use Rattle.model.specs.declared.picture.Picture.{Picture}
use Rattle.model.specs.Ascents.{SoundFacts, fact_numbers}

-- whether bit k of a number is set
unfoldable pub bit : ℕ → ℕ → Bool
bit n k = n / 2 ^ k % 2 == 1

-- whether a fact holds in a picture: one bit for each fact, 64 to a word
unfoldable pub holds : Picture → ℕ → Bool
holds p f = bit (slice_index p.words (f / 64)) (f % 64)

-- the numbers below n that pass a test, ascending
unfoldable pub chosen : ℕ → (ℕ → Bool) → List ℕ
chosen zero test = []
chosen (suc n) test = chosen n test ++ cond (test n) (n ∷ []) []

-- the facts that hold in a picture, ascending
unfoldable pub members : Picture → List ℕ
members p = chosen 512 (holds p)

-- what making a picture answers: one with just these facts, or none where they are unsound
abbrev pub PictureMade : List Fact → Option Picture → Type 0
PictureMade facts (Some p) = members p ≡ fact_numbers facts
PictureMade facts None = SoundFacts (fact_numbers facts) → ⊥

-- where the bit of a fact stands: its word, and the number in which just this bit is set; none where there is no such fact
abbrev pub BitPlace : ℕ → Option (ℕ × ℕ) → Type 0
BitPlace f (Some (word, mask)) = (f < 512) × ((word ≡ f / 64) × (mask ≡ 2 ^ (f % 64)))
BitPlace f None = 512 ≤ f

-- what adding a fact answers: whether there is such a fact; then just it is added, else the picture stays as it was
abbrev pub Inserted : Picture → ℕ → Picture → Option (Unit {0}) → Type 0
Inserted before f after (Some _) = (f < 512) × ((g : ℕ) → holds after g ≡ (g == f || holds before g))
Inserted before f after None = (512 ≤ f) × (after ≡ before)

-- what taking a fact away answers: whether there is such a fact; then just it is gone, else the picture stays as it was
abbrev pub Removed : Picture → ℕ → Picture → Option (Unit {0}) → Type 0
Removed before f after (Some _) = (f < 512) × ((g : ℕ) → holds after g ≡ (not (g == f) && holds before g))
Removed before f after None = (512 ≤ f) × (after ≡ before)
