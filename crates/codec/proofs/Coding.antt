-- Lists of values of one width: their joined codes can be cut only between values.
use Rattle.std.proofs.Common.{◌≡◌, ℕ, zero, suc, ◌+◌, ◌*◌, ◌<◌, ◌≤◌, Bool, true, List, [], ◌∷◌, ◌++◌, length, get_or, take, drop, sym, refl, ap, ◌∙◌, mul-suc, arith}
use native.Mathlib.Nat.{eq_of_mul-eq-mul_left}
use Rattle.std.proofs.Math.Nat.{lt_of_mul-lt-mul_left}
use Rattle.std.specs.List.{flat_map}
use Rattle.std.proofs.lemmas.List.{append_assoc, append-nil, drop_all, drop_at, drop_more, length-append, take_at, take_more}
use Rattle.std.proofs.lemmas.Bool.{and_from, and_parts}
use Rattle.std.specs.List.{list_all}

-- a list written out by its places, n of them from place i on
abbrev pub spelled : ℕ → ℕ → List ℕ → List ℕ
spelled zero i xs = []
spelled (suc n) i xs = get_or xs i 0 ∷ spelled n (i + 1) xs

spelled_drop : (n i : ℕ) (xs : List ℕ) → length xs ≡ i + n → spelled n i xs ≡ drop i xs
spelled_drop zero i xs e = sym (drop_all i xs (omega arith))
spelled_drop (suc n) i xs e =
    ap (λ (t : List ℕ). get_or xs i 0 ∷ t) (spelled_drop n (i + 1) xs (omega arith)) ∙ sym (drop_more xs i 0 (omega arith))

-- a list of known length is its places
pub spelled_all : (n : ℕ) (xs : List ℕ) → length xs ≡ n → spelled n 0 xs ≡ xs
spelled_all n xs e = spelled_drop n 0 xs (omega arith)

-- what stands before and behind a cut at a known place
pub same_front : {A : Type 0} (a b r s : List A) → length a ≡ length b → a ++ r ≡ b ++ s → a ≡ b
same_front a b r s e h = sym (take_at a r (length a) refl) ∙ ap (λ (t : List _). take (length a) t) h ∙ take_at b s (length a) (sym e)

pub same_back : {A : Type 0} (a b r s : List A) → length a ≡ length b → a ++ r ≡ b ++ s → r ≡ s
same_back a b r s e h = sym (drop_at a r (length a) refl) ∙ ap (λ (t : List _). drop (length a) t) h ∙ drop_at b s (length a) (sym e)

-- one value more
pub joined_push : {A : Type 0} (code : A → List ℕ) (xs : List A) (x : A) → flat_map code (xs ++ (x ∷ [])) ≡ flat_map code xs ++ code x
joined_push code [] x = append-nil (code x)
joined_push code (y ∷ xs) x =
    ap (λ (t : List ℕ). code y ++ t) (joined_push code xs x) ∙ sym (append_assoc (code y) (flat_map code xs) (code x))

pub every_push : {A : Type 0} (test : A → Bool) (xs : List A) (x : A) → list_all test xs ≡ true → test x ≡ true → list_all test (xs ++ (x ∷ [])) ≡ true
every_push test [] x e h = and_from (test x) true h refl
every_push test (y ∷ xs) x e h =
    let p = and_parts (test y) (list_all test xs) e in and_from (test y) (list_all test (xs ++ (x ∷ []))) p.0 (every_push test xs x p.1 h)

-- what every value passes, each does
pub every_at : {A : Type 0} (test : A → Bool) (xs : List A) (d : A) (i : ℕ) → list_all test xs ≡ true → i < length xs → test (get_or xs i d) ≡ true
every_at test [] d i e h = absurd (omega arith)
every_at test (x ∷ xs) d zero e h = (and_parts (test x) (list_all test xs) e).0
every_at test (x ∷ xs) d (suc i) e h = every_at test xs d i (and_parts (test x) (list_all test xs) e).1 (omega arith)

module _ {A : Type 0} (code : A → List ℕ) (proper : A → Bool) (size : ℕ) (fixed : (x : A) → length (code x) ≡ size) where
  pub length_joined : (xs : List A) → length (flat_map code xs) ≡ size * length xs
  length_joined [] = omega arith
  length_joined (x ∷ xs) =
      length-append (code x) (flat_map code xs)
      ∙ omega (arith, fixed x, length_joined xs, mul-suc size (length xs))

  -- Where some values and then a rest make up the codes of a longer list, the rest begins with the code of the next value.
  pub next_value : (done xs : List A) (rest : List ℕ) → list_all proper xs ≡ true → length done < length xs → flat_map code done ++ rest ≡ flat_map code xs
      → (x : A) × (ys : List A) × (proper x ≡ true) × (rest ≡ code x ++ flat_map code ys)
  next_value [] [] rest e h q = absurd (omega arith)
  next_value [] (x ∷ xs) rest e h q = (x, xs, (and_parts (proper x) (list_all proper xs) e).0, q)
  next_value (d ∷ done) [] rest e h q = absurd (omega arith)
  next_value (d ∷ done) (x ∷ xs) rest e h q =
      next_value done xs rest (and_parts (proper x) (list_all proper xs) e).1 (omega arith)
      (same_back (code d) (code x) _ _ (fixed d ∙ sym (fixed x)) (sym (append_assoc (code d) (flat_map code done) rest) ∙ q))

  -- The same where it is known of the rest alone that it has bytes: then there are more values. No proof here cites it: it is
  -- for those who read until no bytes are left, without knowing how many values there are.
  pub value_left : (done xs : List A) (rest : List ℕ) → 0 < length rest → list_all proper xs ≡ true → flat_map code done ++ rest ≡ flat_map code xs
      → (length done < length xs) × ((x : A) × (ys : List A) × (proper x ≡ true) × (rest ≡ code x ++ flat_map code ys))
  value_left done xs rest h e q =
      let long : length done < length xs =
      lt_of_mul-lt-mul_left size (omega (arith, h, ap length q, length-append (flat_map code done) rest, length_joined done, length_joined xs))
      in
      (long, next_value done xs rest e long q)

  -- Two lists of as many values with the same codes are the same, where a value is known by its code.
  pub same_joined : ((x y : A) → proper x ≡ true → proper y ≡ true → code x ≡ code y → x ≡ y)
      → (xs ys : List A) → length xs ≡ length ys → list_all proper xs ≡ true → list_all proper ys ≡ true → flat_map code xs ≡ flat_map code ys → xs ≡ ys
  same_joined one [] [] l e f q = refl
  same_joined one [] (y ∷ ys) l e f q = absurd (omega arith)
  same_joined one (x ∷ xs) [] l e f q = absurd (omega arith)
  same_joined one (x ∷ xs) (y ∷ ys) l e f q =
      let w : length (code x) ≡ length (code y) = fixed x ∙ sym (fixed y) in
      let p = and_parts (proper x) (list_all proper xs) e in
      let r = and_parts (proper y) (list_all proper ys) f in
      let a : x ≡ y = one x y p.0 r.0 (same_front (code x) (code y) _ _ w q) in
      let b : xs ≡ ys = same_joined one xs ys (omega arith) p.1 r.1 (same_back (code x) (code y) _ _ w q) in
      cc

  -- how many values there are is known from the length of their codes
  pub count_known : (xs : List A) (bytes : List ℕ) (n : ℕ) → 0 < size → length bytes ≡ size * n → flat_map code xs ≡ bytes → length xs ≡ n
  count_known xs bytes n z l e =
      let s : size * length xs ≡ size * n = sym (length_joined xs) ∙ ap length e ∙ l in eq_of_mul-eq-mul_left size z (length xs) n s

  -- a list of values is known by its codes
  pub known_list : 0 < size → ((x y : A) → proper x ≡ true → proper y ≡ true → code x ≡ code y → x ≡ y)
      → (xs ys : List A) → list_all proper xs ≡ true → list_all proper ys ≡ true → flat_map code xs ≡ flat_map code ys → xs ≡ ys
  known_list z one xs ys e f q =
      same_joined one xs ys (count_known xs (flat_map code ys) (length ys) z (length_joined ys) q) e f q

-- the codes of the first values are no longer than those of all
pub joined_front : {A : Type 0} (code : A → List ℕ) (n : ℕ) (xs : List A) → length (flat_map code (take n xs)) ≤ length (flat_map code xs)
joined_front code zero xs = omega arith
joined_front code (suc n) [] = omega arith
joined_front code (suc n) (x ∷ xs) =
    omega (
      arith,
      joined_front code n xs,
      length-append (code x) (flat_map code (take n xs)),
      length-append (code x) (flat_map code xs),
    )

-- one value more of a list
pub joined_more : {A : Type 0} (code : A → List ℕ) (xs : List A) (i : ℕ) (x : A) → i < length xs → x ≡ get_or xs i x
    → flat_map code (take (i + 1) xs) ≡ flat_map code (take i xs) ++ code x
joined_more code xs i x h e =
    ap (flat_map code) (take_more xs i x h)
    ∙ ap (λ (y : _). flat_map code (take i xs ++ (y ∷ []))) (sym e)
    ∙ joined_push code (take i xs) x
