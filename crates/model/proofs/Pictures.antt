-- Pictures: a picture is known by its members, and they are sound.
use Rattle.std.proofs.Common.{◌≡◌, ℕ, ◌+◌, ◌-◌, ◌*◌, ◌/◌, ◌%◌, ◌^◌, ◌<◌, ◌≤◌, Bool, false, not, ◌&&◌, ◌||◌, eqb, List, [], ◌∷◌, ◌++◌, length, get_or, set, Some, None, Option, sym, refl, ap, ◌∙◌, ⊎_elim, arith}
use Rattle.std.specs.Prelude.{MatchOption}
use denote.Struct.Record.{values_one}
use lib.Bits.{bit_and, bit_or}
use Rattle.std.proofs.lemmas.Nat.{mod_below, or_lt, pow_below}
use Rattle.std.proofs.lemmas.List.{ext_get_or, get_or_past, get_or-set_other, get_or-set_same}
use Rattle.std.proofs.lemmas.Bool.{cases_eq, eq-eqb, ne_eqb}
use Rattle.model.specs.contracts.picture.Picture.{struct, the_propositions}
use Rattle.model.specs.declared.picture.Picture.{Picture}
use Rattle.model.specs.Ascents.{SoundFacts}
use Rattle.model.specs.Pictures.{BitPlace, bit, holds, members}
use Rattle.model.proofs.Bits.{bit_cleared, bit_common, bit_joined, bit_none, bit_set, same_bits}
use Rattle.model.proofs.Chosen.{chosen_few, chosen_known, chosen_none, chosen_push, chosen_sound}

pub members_sound : (p : Picture) → SoundFacts (members p)
unfolding members
members_sound p = let s = chosen_sound 512 (holds p) in record { rises = s.0; below = s.1 }

pub members_few : (p : Picture) → length (members p) ≤ 512
unfolding members
members_few p = chosen_few 512 (holds p)

-- no fact holds from 512 on
pub holds_past : (p : Picture) (f : ℕ) → 512 ≤ f → holds p f ≡ false
unfolding holds
holds_past p f h =
    ap (λ (w : ℕ). bit w (f % 64)) (get_or_past p.words (f / 64) 0 (omega (arith, p.places))) ∙ bit_none (f % 64)

-- in one word, facts are told apart by their bits
same_word : (f g : ℕ) → g / 64 ≡ f / 64 → eqb (g % 64) (f % 64) ≡ eqb g f
same_word f g e =
    ⊎_elim
    (λ q. eq-eqb (g % 64) (f % 64) (omega arith) ∙ sym (eq-eqb g f q))
    (λ q. ne_eqb (g % 64) (f % 64) (λ r. q (omega arith)) ∙ sym (ne_eqb g f q))
    (cases_eq g f)

-- one word changed: what the bit of fact f becomes depends on what it was, and no other bit changes
pub changed_bit : (mix : Bool → Bool → Bool) → ((b : Bool) → mix false b ≡ b) → (words : List ℕ) (f new : ℕ) → f / 64 < length words
    → ((j : ℕ) → j < 64 → bit new j ≡ mix (eqb j (f % 64)) (bit (get_or words (f / 64) 0) j)) → (g : ℕ)
    → bit (get_or (set words (f / 64) new) (g / 64) 0) (g % 64) ≡ mix (eqb g f) (bit (get_or words (g / 64) 0) (g % 64))
changed_bit mix keeps words f new h e g =
    ⊎_elim
    (λ q.
    let here = get_or-set_same words (f / 64) new 0 h in
    let mixed = e (g % 64) (mod_below g 64 (omega arith)) in
    let same = same_word f g q in
    cc)
    (λ n.
    let there = get_or-set_other words (f / 64) (g / 64) new 0 n in
    let other : eqb g f ≡ false = ne_eqb g f (λ q. n (ap (λ (k : ℕ). k / 64) q)) in
    let kept = keeps (bit (get_or words (g / 64) 0) (g % 64)) in
    cc)
    (cases_eq (g / 64) (f / 64))

pub changed_small : (words : List ℕ) (i new : ℕ) → i < length words → ((j : ℕ) → get_or words j 0 < 2 ^ 64) → new < 2 ^ 64
    → (j : ℕ) → get_or (set words i new) j 0 < 2 ^ 64
changed_small words i new h s n j =
    ⊎_elim
    (λ e. omega (arith, ap (λ (k : ℕ). get_or (set words i new) k 0) e, get_or-set_same words i new 0 h))
    (λ e. omega (arith, get_or-set_other words i j new 0 e, s j))
    (cases_eq j i)

-- bit k of word i is fact 64 i + k
word_bit : (p : Picture) (i k : ℕ) → k < 64 → bit (get_or p.words i 0) k ≡ holds p (64 * i + k)
unfolding holds
word_bit p i k h =
    let a : (64 * i + k) / 64 ≡ i = omega arith in
    let b : (64 * i + k) % 64 ≡ k = omega arith in
    cc

-- pictures in which the same facts hold are the same
pub same_holds : (p q : Picture) → ((f : ℕ) → f < 512 → holds p f ≡ holds q f) → p ≡ q
same_holds p q e =
    let w : p.words ≡ q.words =
    ext_get_or 0 p.words q.words (p.places ∙ sym q.places)
    (λ i h. same_bits 64 (get_or p.words i 0) (get_or q.words i 0) (p.small i) (q.small i)
    (λ k l. word_bit p i k l ∙ e (64 * i + k) (omega (arith, p.places)) ∙ sym (word_bit q i k l)))
    in
    values_one struct the_propositions p q (cc)

pub same_picture : (p q : Picture) → members p ≡ members q → p ≡ q
unfolding members
same_picture p q e = same_holds p q (chosen_known 512 (holds p) (holds q) e)

-- a picture with no fact has no members
pub members_none : (p : Picture) → ((f : ℕ) → holds p f ≡ false) → members p ≡ []
unfolding members
members_none p e = chosen_none 512 (holds p) (λ k h. e k)

-- a fact above all others that is added comes last
pub members_push : (p q : Picture) (f : ℕ) → f < 512 → ((g : ℕ) → holds q g ≡ (eqb g f || holds p g)) → ((g : ℕ) → f ≤ g → holds p g ≡ false)
    → members q ≡ members p ++ (f ∷ [])
unfolding members
members_push p q f h e z = chosen_push 512 f (holds p) (holds q) h e z

-- the bit of a fact in its word
pub place_bit : (words : List ℕ) (f : ℕ) (r : Option (ℕ × ℕ)) (b : Bool) → BitPlace f r
    → MatchOption r (b ≡ false) (λ x. b ≡ not (eqb (bit_and (get_or words x.0 0) x.1) 0)) → length words ≡ 8
    → b ≡ bit (get_or words (f / 64) 0) (f % 64)
place_bit words f None b p m l = m ∙ sym (ap (λ (w : ℕ). bit w (f % 64)) (get_or_past words (f / 64) 0 (omega arith)) ∙ bit_none (f % 64))
place_bit words f (Some (word, mask)) b p m l =
    m
    ∙ ap (λ (w : ℕ). not (eqb (bit_and (get_or words w 0) mask) 0)) p.1.0
    ∙ ap (λ (x : ℕ). not (eqb (bit_and (get_or words (f / 64) 0) x) 0)) p.1.1
    ∙ bit_common (get_or words (f / 64) 0) (f % 64)

-- the words in which the bit of one fact more is set, by its number alone, and for any number of words; kept, though no
-- proof cites it, since it is named in docs/PORT.md
abbrev pub with_fact : List ℕ → ℕ → List ℕ
with_fact words f = set words (f / 64) (bit_or (get_or words (f / 64) 0) (1 * 2 ^ (f % 64) % 2 ^ 64))

pub with_fact_bit : (words : List ℕ) (f : ℕ) → f / 64 < length words → (g : ℕ)
    → bit (get_or (with_fact words f) (g / 64) 0) (g % 64) ≡ (eqb g f || bit (get_or words (g / 64) 0) (g % 64))
with_fact_bit words f h =
    changed_bit ◌||◌ (λ b. refl) words f _ h (λ j l. bit_joined 64 (get_or words (f / 64) 0) (f % 64) j (mod_below f 64 (omega arith)))

pub with_fact_small : (words : List ℕ) (f : ℕ) → f / 64 < length words → ((i : ℕ) → get_or words i 0 < 2 ^ 64)
    → (i : ℕ) → get_or (with_fact words f) i 0 < 2 ^ 64
with_fact_small words f h s =
    let old = get_or words (f / 64) 0 in
    let power : 1 * 2 ^ (f % 64) % 2 ^ 64 < 2 ^ 64 = mod_below (1 * 2 ^ (f % 64)) (2 ^ 64) (omega arith) in
    changed_small words (f / 64) _ h s (or_lt 64 old (1 * 2 ^ (f % 64) % 2 ^ 64) (s (f / 64)) power)

-- the words in which the bit of one fact more is set, as the code sets it
pub fact_set : (words : List ℕ) (f word mask : ℕ) → BitPlace f (Some (word, mask)) → length words ≡ 8 → (g : ℕ)
    → bit (get_or (set words word (bit_or (get_or words word 0) mask)) (g / 64) 0) (g % 64) ≡ (eqb g f || bit (get_or words (g / 64) 0) (g % 64))
fact_set words f word mask p l g =
    rw (p.1.0, p.1.1)
    (changed_bit ◌||◌ (λ b. refl) words f _ (omega (arith, p.0)) (λ j h. bit_set (get_or words (f / 64) 0) (f % 64) j) g)

pub fact_set_small : (words : List ℕ) (f word mask : ℕ) → BitPlace f (Some (word, mask)) → length words ≡ 8
    → ((i : ℕ) → get_or words i 0 < 2 ^ 64) → (i : ℕ) → get_or (set words word (bit_or (get_or words word 0) mask)) i 0 < 2 ^ 64
fact_set_small words f word mask p l s =
    let low = pow_below (f % 64) 64 (mod_below f 64 (omega arith)) in
    changed_small words word _ (omega (arith, p.0, p.1.0)) s (or_lt 64 (get_or words word 0) mask (s word) (omega (arith, p.1.1)))

-- the words in which the bit of a fact is cleared
pub without_fact : (words : List ℕ) (f word mask : ℕ) → BitPlace f (Some (word, mask)) → length words ≡ 8 → (g : ℕ)
    → bit (get_or (set words word (bit_and (get_or words word 0) (2 ^ 64 - 1 - mask))) (g / 64) 0) (g % 64)
    ≡ (not (eqb g f) && bit (get_or words (g / 64) 0) (g % 64))
without_fact words f word mask p l g =
    rw (p.1.0, p.1.1)
    (changed_bit (λ here old. not here && old) (λ b. refl) words f _ (omega (arith, p.0))
    (λ j h. bit_cleared 64 (get_or words (f / 64) 0) (f % 64) j (mod_below f 64 (omega arith)) h) g)
