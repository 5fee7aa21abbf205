-- The checks run in the order of their numbers: what has passed so far, and one check more.
use Rattle.std.proofs.Common.{◌≡◌, ℕ, ◌+◌, cond, eqb, List, sym, refl, ap, ◌∙◌, subst, ⊎_elim, arith}
use Rattle.std.proofs.lemmas.Bool.{cases_lt}
use Rattle.feeder.specs.declared.refusal.ReadRefusal.{ReadRefusal}
use Rattle.feeder.specs.declared.refusal.ReadRefusal.TheVariants.{FirstFacts, Goal, Header, Length, Plant, Predicates, Rules, Short, Version}
use Rattle.feeder.specs.Refusals.{read_number}
use Rattle.feeder.specs.Verdicts.{Check, Passed}

-- the refusal with a number
numbered : ℕ → ReadRefusal
numbered n =
    cond (eqb n 1) Short
    (cond (eqb n 2) Version
    (cond (eqb n 3) Header
    (cond (eqb n 4) Length
    (cond (eqb n 5) Predicates
    (cond (eqb n 6) Plant (cond (eqb n 7) FirstFacts (cond (eqb n 8) Goal Rules)))))))

numbered_again : (e : ReadRefusal) → numbered (read_number e) ≡ e
unfolding numbered
numbered_again Short = refl
numbered_again Version = refl
numbered_again Header = refl
numbered_again Length = refl
numbered_again Predicates = refl
numbered_again Plant = refl
numbered_again FirstFacts = refl
numbered_again Goal = refl
numbered_again Rules = refl

-- a refusal is known by its number
pub same_refusal : (d e : ReadRefusal) → read_number d ≡ read_number e → d ≡ e
same_refusal d e q = sym (numbered_again d) ∙ ap numbered q ∙ numbered_again e

pub passed_more : (bytes : List ℕ) (e : ReadRefusal) → Passed (read_number e) bytes → Check e bytes → Passed (read_number e + 1) bytes
passed_more bytes e p c =
    λ d h.
    ⊎_elim
    (λ l. p d l)
    (λ g. subst (λ (r : ReadRefusal). Check r bytes) (sym (same_refusal d e (omega arith))) c)
    (cases_lt (read_number d) (read_number e))
