-- Verdicts: the nine checks of a record, and which answer each string of bytes gets.
use Rattle.std.specs.Prelude.{◌≡◌, ℕ, ◌*◌, ◌<◌, ◌≤◌, true, List, length, take, drop, Some, None, Ok, Err, Option, Result, slice_index}
use Rattle.std.specs.List.{list_all}
use Rattle.model.specs.declared.goal.Goal.{Goal}
use Rattle.model.specs.declared.picture.Picture.{Picture}
use Rattle.model.specs.declared.vocabulary.Arity.{Arity}
use Rattle.model.specs.declared.vocabulary.Vocabulary.{Vocabulary}
use Rattle.model.specs.Pictures.{members}
use Rattle.model.specs.Vocabularies.{fact_total}
use Rattle.plants.specs.Switches.{network_arities}
use Rattle.feeder.specs.declared.header.Header.{Header}
use Rattle.feeder.specs.declared.header.PlantKind.{PlantKind}
use Rattle.feeder.specs.declared.header.PlantKind.TheVariants as plant
use Rattle.feeder.specs.declared.record.Feeder.{Feeder}
use Rattle.feeder.specs.declared.refusal.ReadRefusal.{ReadRefusal}
use Rattle.feeder.specs.declared.refusal.ReadRefusal.TheVariants as refusal
use Rattle.feeder.specs.declared.tables.PlantTable.{PlantTable}
use Rattle.feeder.specs.declared.tables.RuleTable.{RuleTable}
use Rattle.feeder.specs.Headers.{header_bytes, version, within_limits}
use Rattle.feeder.specs.Layouts.{called_for, facts_at, goal_at, plant_at, plant_size, rules_at, rules_size}
use Rattle.feeder.specs.Records.{arity_bytes, encode, goal_bytes, picture_bytes}
use Rattle.feeder.specs.Refusals.{read_number}
use Rattle.feeder.specs.Tables.{fact_below, may_be_first, plant_bytes, plant_kind, plant_rows, plant_words, rule_bytes, rule_kind, rule_words}

-- some bytes of a record: so many from a place on
abbrev pub part : ℕ → ℕ → List ℕ → List ℕ
part from size bytes = take size (drop from bytes)

-- the parts of a record, as its header lays them out
abbrev pub words_part : Header → List ℕ → List ℕ
words_part h bytes = part 11 h.predicates bytes

abbrev pub plant_part : Header → List ℕ → List ℕ
plant_part h bytes = part (plant_at h) (plant_size h.plant h.rows (drop (plant_at h) bytes)) bytes

abbrev pub first_part : Header → List ℕ → List ℕ
first_part h bytes = part (facts_at h bytes) (2 * h.first) bytes

abbrev pub goal_part : Header → List ℕ → List ℕ
goal_part h bytes = part (goal_at h bytes) (3 * h.goal) bytes

abbrev pub rules_part : Header → List ℕ → List ℕ
rules_part h bytes = part (rules_at h bytes) (rules_size h.book h.rules) bytes

-- a value that suits, and whose bytes a part is
pub record Found {A : Type 0} (Suits : A → Type 0) (code : A → List ℕ) (bytes : List ℕ) (x : A) : Type 0 where
  pub suits : Suits x
  pub same : bytes ≡ code x

-- a header whose values are within their limits
abbrev pub SuitHeader : Header → Type 0
SuitHeader h = within_limits h ≡ true

-- a network's predicates are three of one object each
abbrev pub KindWords : PlantKind → List Arity → Type 0
KindWords kind arities = kind ≡ plant.Network → arities ≡ network_arities

-- a vocabulary of the header's objects, with the predicates that the plant's kind needs
pub record SuitWords (h : Header) (v : Vocabulary) : Type 0 where
  pub objects : v.objects ≡ h.objects
  pub kind : KindWords h.plant v.arities

-- a plant of the header's kind and size, over the vocabulary
pub record SuitPlant (h : Header) (v : Vocabulary) (p : PlantTable) : Type 0 where
  pub kind : plant_kind p ≡ h.plant
  pub rows : plant_rows p ≡ h.rows
  pub words : plant_words p ≡ v

-- a picture whose facts may all be first facts
abbrev pub SuitFirst : Header → Vocabulary → Picture → Type 0
SuitFirst h v p = list_all (may_be_first h.plant (fact_total v) h.objects h.rows) (members p) ≡ true

-- a goal on facts of the vocabulary
abbrev pub SuitGoal : Vocabulary → Goal → Type 0
SuitGoal v g = list_all (fact_below (fact_total v)) g.literals ≡ true

-- rules of the header's kind, over the vocabulary
pub record SuitRules (h : Header) (v : Vocabulary) (r : RuleTable) : Type 0 where
  pub kind : rule_kind r ≡ h.book
  pub words : rule_words r ≡ v

-- what the record has in each of its parts
abbrev pub HasHeader : List ℕ → Header → Type 0
HasHeader bytes h = Found SuitHeader header_bytes (take 11 bytes) h

abbrev pub HasWords : List ℕ → Header → Vocabulary → Type 0
HasWords bytes h v = Found (SuitWords h) arity_bytes (words_part h bytes) v

abbrev pub HasPlant : List ℕ → Header → Vocabulary → PlantTable → Type 0
HasPlant bytes h v p = Found (SuitPlant h v) plant_bytes (plant_part h bytes) p

abbrev pub HasFirst : List ℕ → Header → Vocabulary → Picture → Type 0
HasFirst bytes h v p = Found (SuitFirst h v) picture_bytes (first_part h bytes) p

abbrev pub HasGoal : List ℕ → Header → Vocabulary → Goal → Type 0
HasGoal bytes h v g = Found (SuitGoal v) goal_bytes (goal_part h bytes) g

abbrev pub HasRules : List ℕ → Header → Vocabulary → RuleTable → Type 0
HasRules bytes h v r = Found (SuitRules h v) rule_bytes (rules_part h bytes) r

-- the header and the vocabulary of a record, and some value that goes with them
abbrev pub HasWith : {A : Type 0} → List ℕ → (Header → Vocabulary → A → Type 0) → Type 0
HasWith {A} bytes Has = (h : Header) × (v : Vocabulary) × (x : A) × HasHeader bytes h × HasWords bytes h v × Has h v x

-- The nine checks, each under the refusal that it gives where it fails. A part passes its check where there is a value
-- of its type, so one that keeps all rules, that suits the other parts and whose bytes it is.
abbrev pub Check : ReadRefusal → List ℕ → Type 0
Check refusal.Short bytes = 11 ≤ length bytes
Check refusal.Version bytes = slice_index bytes 0 ≡ version
Check refusal.Header bytes = (h : Header) × HasHeader bytes h
Check refusal.Length bytes = (h : Header) × HasHeader bytes h × (length bytes ≡ called_for h bytes)
Check refusal.Predicates bytes = (h : Header) × (v : Vocabulary) × HasHeader bytes h × HasWords bytes h v
Check refusal.Plant bytes = HasWith bytes (HasPlant bytes)
Check refusal.FirstFacts bytes = HasWith bytes (HasFirst bytes)
Check refusal.Goal bytes = HasWith bytes (HasGoal bytes)
Check refusal.Rules bytes = HasWith bytes (HasRules bytes)

-- every check with a number below k passes
abbrev pub Passed : ℕ → List ℕ → Type 0
Passed k bytes = (e : ReadRefusal) → read_number e < k → Check e bytes

-- a refusal is given where its check is the first that fails
pub record Refused (e : ReadRefusal) (bytes : List ℕ) : Type 0 where
  pub before : Passed (read_number e) bytes
  pub fails : Check e bytes → ⊥

-- the answer to some bytes: a feeder is accepted where they are its record, else a refusal is given
abbrev pub Verdict : List ℕ → Result Feeder ReadRefusal → Type 0
Verdict bytes (Ok f) = bytes ≡ encode f
Verdict bytes (Err e) = Refused e bytes

-- a feeder is the answer exactly when the bytes are its record: so reading what was written gives the same feeder back,
-- and writing what was read gives the same bytes
pub record ExactlyOf (bytes : List ℕ) (f : Feeder) (r : Result Feeder ReadRefusal) : Type 0 where
  pub written_again : r ≡ Ok f → encode f ≡ bytes
  pub read_again : bytes ≡ encode f → r ≡ Ok f

-- what replacing a feeder by that of a record answers, and which feeder there is then
abbrev pub Reloaded : List ℕ → Feeder → Feeder → Result (Unit {0}) ReadRefusal → Type 0
Reloaded bytes before after (Ok u) = bytes ≡ encode after
Reloaded bytes before after (Err e) = Refused e bytes × (after ≡ before)

-- what reading a part answers: a value that is found there, or none where there is none
abbrev pub PartRead : {A : Type 0} → (A → Type 0) → (A → List ℕ) → List ℕ → Option A → Type 0
PartRead Suits code bytes (Some x) = Found Suits code bytes x
PartRead {A} Suits code bytes None = (x : A) → Found Suits code bytes x → ⊥

-- what one step of reading answers: a value that the record has, all checks below k being passed, or a refusal
abbrev pub Step : {A : Type 0} → List ℕ → (A → Type 0) → ℕ → Result A ReadRefusal → Type 0
Step bytes Has k (Ok x) = Has x × Passed k bytes
Step bytes Has k (Err e) = Refused e bytes
