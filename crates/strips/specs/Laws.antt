-- Laws: what a move asks of a state and what it changes, said of each argument, precondition, effect and fact.
use Rattle.std.specs.Prelude.{◌≡◌, ℕ, ◌+◌, ◌*◌, ◌<◌, ◌≤◌, true, false, length, slice_index_or}
use Rattle.model.specs.declared.fact.Literal.{Literal}
use Rattle.model.specs.declared.fact.Sign.{Sign}
use Rattle.model.specs.declared.fact.Sign.TheVariants.{Negative, Positive}
use Rattle.model.specs.declared.picture.Picture.{Picture}
use Rattle.model.specs.Goals.{literal_holds}
use Rattle.model.specs.Pictures.{holds}
use Rattle.plants.specs.declared.actions.ActionTable.{ActionTable}
use Rattle.plants.specs.Lifted.{blank_lifted}
use Rattle.strips.specs.Grounding.{first_argument, ground_literal, operator_at, operator_number, second_argument}

-- what the number of a move is made of
pub record Numbered (m : ℕ) : Type 0 where
  pub sum : m ≡ operator_number m * 256 + first_argument m * 16 + second_argument m
  pub first : first_argument m < 16
  pub second : second_argument m < 16

-- what an operator with some parameters asks of an argument: an object if it has this parameter, else 0
pub record Argument (n parameters i x : ℕ) : Type 0 where
  pub has : i < parameters → x < n
  pub lacks : parameters ≤ i → x ≡ 0

-- a precondition of a move's operator by its place, with the move's arguments for the parameters
abbrev pub need_at : ActionTable → ℕ → ℕ → Literal
need_at t m k = ground_literal t m (slice_index_or (operator_at t m).needs k blank_lifted)

-- an effect by its place, likewise
abbrev pub effect_at : ActionTable → ℕ → ℕ → Literal
effect_at t m k = ground_literal t m (slice_index_or (operator_at t m).effects k blank_lifted)

-- a move can be made in a state: there is its operator, which takes its arguments, and all preconditions hold
pub record Applicable (t : ActionTable) (s : Picture) (m : ℕ) : Type 0 where
  pub exists : operator_number m < length t.operators
  pub first : Argument t.vocabulary.objects (operator_at t m).parameters 0 (first_argument m)
  pub second : Argument t.vocabulary.objects (operator_at t m).parameters 1 (second_argument m)
  pub needs : (k : ℕ) → k < length (operator_at t m).needs → literal_holds s (need_at t m k) ≡ true

-- some effect of a move has this sign and this fact
abbrev pub Makes : ActionTable → ℕ → Sign → ℕ → Type 0
Makes t m sign f =
    (k : ℕ) × (k < length (operator_at t m).effects) × ((effect_at t m k).sign ≡ sign) × ((effect_at t m k).fact.number ≡ f)

-- the state r comes after the move m in the state s: nothing changes where the move cannot be made, and otherwise
-- positive effects hold, negative ones do not unless they are positive too, and all other facts are as they were
pub record Stepped (t : ActionTable) (s : Picture) (m : ℕ) (r : Picture) : Type 0 where
  pub idle : (Applicable t s m → ⊥) → r ≡ s
  pub added : Applicable t s m → (f : ℕ) → Makes t m Positive f → holds r f ≡ true
  pub deleted : Applicable t s m → (f : ℕ) → Makes t m Negative f → (Makes t m Positive f → ⊥) → holds r f ≡ false
  pub kept : Applicable t s m → (f : ℕ) → (Makes t m Negative f → ⊥) → (Makes t m Positive f → ⊥) → holds r f ≡ holds s f
