-- A record and its feeder: the bytes of a feeder have its parts in their places, so they pass every check, and no other
-- feeder has them; and bytes that have parts that suit each other are those of the feeder made of them.
use Rattle.std.proofs.Common.{◌≡◌, ℕ, ◌+◌, ◌*◌, ◌≤◌, true, eqb, leb, List, [], ◌∷◌, ◌++◌, map, length, get_or, take, drop, Ok, Err, Result, sym, refl, ap, ◌∙◌, subst, ⊎_elim, arith, length-append, take-append-drop}
use denote.Struct.Record.{values_one}
use Rattle.books.proofs.Sound.{same_chart, same_formula_table}
use Rattle.books.specs.contracts.line.LineCoded5.TheImpl.Laws as line
use Rattle.books.specs.contracts.node.NodeCoded4.TheImpl.Laws as node
use Rattle.books.specs.Lines.{line_bytes}
use Rattle.books.specs.Nodes.{node_bytes, node_proper}
use Rattle.codec.proofs.Coding.{length_joined}
use Rattle.model.proofs.Goals.{same_goal}
use Rattle.model.proofs.Pictures.{members_few, same_picture}
use Rattle.model.proofs.Vocabularies.{same_vocabulary}
use Rattle.model.specs.declared.goal.Goal.{Goal}
use Rattle.model.specs.declared.picture.Picture.{Picture}
use Rattle.model.specs.declared.vocabulary.Arity.{Arity}
use Rattle.model.specs.declared.vocabulary.Vocabulary.{Vocabulary}
use Rattle.model.specs.contracts.fact.LiteralCoded3.TheImpl.Laws as literal
use Rattle.model.specs.contracts.vocabulary.ArityCoded1.TheImpl.Laws as arity
use Rattle.model.specs.Facts.{arity_byte}
use Rattle.model.specs.Literals.{literal_bytes, word_bytes}
use Rattle.model.specs.Pictures.{members}
use Rattle.plants.proofs.Same.{same_actions, same_network}
use Rattle.plants.proofs.Sound.{network_sound}
use Rattle.plants.specs.declared.operator.Operator.{Operator}
use Rattle.plants.specs.Operators.{operator_bytes}
use Rattle.plants.specs.Switches.{switch_bytes}
use Rattle.std.proofs.lemmas.List.{append_assoc, append-nil, drop_at, drop-drop, get_or-take, length-take, take_all, take_at}
use Rattle.std.proofs.lemmas.Bool.{and_from, cases_lt, eq-eqb, le-leb}
use Rattle.std.specs.List.{flat_map}
use Rattle.feeder.specs.contracts.header.Header as header
use Rattle.feeder.specs.contracts.record.Feeder as feeder
use Rattle.feeder.specs.declared.header.BookKind.{BookKind}
use Rattle.feeder.specs.declared.header.BookKind.TheVariants as book
use Rattle.feeder.specs.declared.header.Header.{Header}
use Rattle.feeder.specs.declared.record.Feeder.{Feeder}
use Rattle.feeder.specs.declared.refusal.ReadRefusal.{ReadRefusal}
use Rattle.feeder.specs.declared.refusal.ReadRefusal.TheVariants as refusal
use Rattle.feeder.specs.declared.tables.PlantTable.{PlantTable}
use Rattle.feeder.specs.declared.tables.PlantTable.TheVariants.{Actions, Network as Wired}
use Rattle.feeder.specs.declared.tables.RuleTable.{RuleTable}
use Rattle.feeder.specs.declared.tables.RuleTable.TheVariants.{Chart as Drawn, Formula}
use Rattle.feeder.specs.Headers.{book_fits, counts_fit, header_bytes, plant_fits, within_limits}
use Rattle.feeder.specs.Layouts.{called_for, facts_at, goal_at, operator_size, operators_size, plant_at, plant_size, rules_at, rules_size}
use Rattle.feeder.specs.Records.{arity_bytes, encode, goal_bytes, header_of, picture_bytes}
use Rattle.feeder.specs.Refusals.{read_number}
use Rattle.feeder.specs.Tables.{plant_bytes, plant_kind, plant_rows, plant_words, rule_bytes, rule_kind, rule_rows, rule_words, word_code}
use Rattle.feeder.specs.Verdicts.{Check, HasFirst, HasGoal, HasHeader, HasPlant, HasRules, HasWords, KindWords, Verdict}
use Rattle.feeder.proofs.Books.{lines_known, nodes_known, nodes_proper}
use Rattle.feeder.proofs.Checks.{same_refusal}
use Rattle.feeder.proofs.Cuts.{cut, cut_last, length_part}
use Rattle.feeder.proofs.Known.{header_one, literals_known, word_known, words_list_known, words_one}
use Rattle.feeder.proofs.Plants.{feeds_back, length_switch_bytes, operators_hold, switches_front, switches_known}
use Rattle.feeder.proofs.Shapes.{begins, operators_known}

-- how long the parts of a feeder's record are
pub words_long : (v : Vocabulary) → length (arity_bytes v) ≡ length v.arities
words_long v = length_joined (λ a. arity_byte a ∷ []) (λ _. true) 1 arity.fixed-law v.arities ∙ omega arith

pub first_long : (p : Picture) → length (picture_bytes p) ≡ 2 * length (members p)
first_long p = length_joined word_bytes (λ _. true) 2 (λ n. refl) (members p)

pub goal_long : (g : Goal) → length (goal_bytes g) ≡ 3 * length g.literals
goal_long g = length_joined literal_bytes (λ _. true) 3 literal.fixed-law g.literals

pub rules_long : (r : RuleTable) → length (rule_bytes r) ≡ rules_size (rule_kind r) (rule_rows r)
rules_long (Formula t) = length_joined node_bytes node_proper 4 node.fixed-law t.nodes
rules_long (Drawn t) = length_joined line_bytes (λ _. true) 5 line.fixed-law t.lines

operators_long : (ops : List Operator) (rest : List ℕ) → operators_size (length ops) (flat_map operator_bytes ops ++ rest) ≡ length (flat_map operator_bytes ops)
unfolding operators_size
operators_long [] rest = refl
operators_long (op ∷ ops) rest =
    let all = flat_map operator_bytes (op ∷ ops) ++ rest in
    let more = flat_map operator_bytes ops ++ rest in
    let e : operator_bytes op ++ more ≡ all = sym (append_assoc (operator_bytes op) (flat_map operator_bytes ops) rest) in
    let s : operator_size all ≡ length (operator_bytes op) = (begins op more all e).size in
    let d : drop (operator_size all) all ≡ more =
    ap (λ (k : ℕ). drop k all) s ∙ ap (λ (t : List ℕ). drop (length (operator_bytes op)) t) (sym e) ∙ drop_at (operator_bytes op) more (length (operator_bytes op)) refl
    in
    let r : operators_size (length ops) (drop (operator_size all) all) ≡ length (flat_map operator_bytes ops) =
    ap (operators_size (length ops)) d ∙ operators_long ops rest
    in
    omega (arith, length-append (operator_bytes op) (flat_map operator_bytes ops))

-- the size of a plant's table, as its header and its bytes call for it
pub plant_long : (p : PlantTable) (rest : List ℕ) → plant_size (plant_kind p) (plant_rows p) (plant_bytes p ++ rest) ≡ length (plant_bytes p)
plant_long (Actions t) rest = operators_long t.operators rest
plant_long (Wired w) rest = omega (arith, length-append (flat_map switch_bytes w.switches) (word_bytes w.fed), length_switch_bytes w.switches)

-- a part and what stands behind it
next_part : (at size next : ℕ) (bytes x y : List ℕ) → drop at bytes ≡ x ++ y → length x ≡ size → next ≡ at + size
    → (take size (drop at bytes) ≡ x) × (drop next bytes ≡ y)
next_part at size next bytes x y e l n = (
  ap (λ (t : List ℕ). take size t) e ∙ take_at x y size l,
  ap (λ (k : ℕ). drop k bytes) n ∙ sym (drop-drop size at bytes) ∙ ap (λ (t : List ℕ). drop size t) e ∙ drop_at x y size l,
)

-- a vocabulary is known by its numbers
arity_codes : (xs ys : List Arity) → map arity_byte xs ≡ map arity_byte ys → xs ≡ ys
arity_codes [] [] e = refl
arity_codes [] (y ∷ ys) e = absurd (omega (arith, ap length e))
arity_codes (x ∷ xs) [] e = absurd (omega (arith, ap length e))
arity_codes (x ∷ xs) (y ∷ ys) e =
    let h : arity_byte x ∷ [] ≡ arity_byte y ∷ [] = ap (λ (t : List ℕ). take 1 t) e in
    let a = arity.one-law x y refl refl h in
    let b = arity_codes xs ys (ap (λ (t : List ℕ). drop 1 t) e) in
    cc

pub code_known : (v w : Vocabulary) → word_code v ≡ word_code w → v ≡ w
code_known v w e =
    same_vocabulary v w (ap (λ (t : List ℕ). get_or t 0 0) e) (arity_codes v.arities w.arities (ap (λ (t : List ℕ). drop 1 t) e))

-- the header of a feeder is within its limits
plant_limits : (f : Feeder) (p : PlantTable) → f.plant ≡ p → plant_fits (plant_kind p) (header_of f) ≡ true
plant_limits f (Actions t) e = le-leb _ 16 (omega (arith, ap plant_rows e, t.few))
plant_limits f (Wired w) e =
    let n : length w.vocabulary.arities ≡ 3 = ap length (network_sound w).unary in
    and_from (eqb (length (plant_words f.plant).arities) 3) (leb (plant_rows f.plant) (plant_words f.plant).objects)
    (eq-eqb _ 3 (ap (λ (p : PlantTable). length (plant_words p).arities) e ∙ n))
    (le-leb _ _ (omega (arith, ap plant_rows e, ap (λ (p : PlantTable). (plant_words p).objects) e, w.few)))

book_limits : (f : Feeder) (r : RuleTable) → f.rules ≡ r → book_fits (rule_kind r) (header_of f) ≡ true
book_limits f (Formula t) e =
    and_from (leb 1 (rule_rows f.rules)) (leb (rule_rows f.rules) 120)
    (le-leb 1 _ (omega (arith, ap rule_rows e, t.some))) (le-leb _ 120 (omega (arith, ap rule_rows e, t.few)))
book_limits f (Drawn t) e = le-leb _ 120 (omega (arith, ap rule_rows e, t.few))

counts_limits : (f : Feeder) → counts_fit (header_of f) ≡ true
counts_limits f =
    let v = plant_words f.plant in
    and_from (leb 1 v.objects) _ (le-leb 1 _ v.low)
    (and_from (leb v.objects 16) _ (le-leb _ 16 v.high)
    (and_from (leb 1 (length v.arities)) _ (le-leb 1 _ v.some)
    (and_from (leb (length v.arities) 16) _ (le-leb _ 16 v.few)
    (and_from (leb (length f.goal.literals) 64) _ (le-leb _ 64 f.goal.few)
    (and_from (leb f.limit 24) _ (le-leb _ 24 f.short) (le-leb _ 512 (members_few f.first)))))))

pub limits : (f : Feeder) → within_limits (header_of f) ≡ true
limits f =
    and_from (counts_fit (header_of f)) _ (counts_limits f)
    (and_from (plant_fits (plant_kind f.plant) (header_of f)) _ (plant_limits f f.plant refl) (book_limits f f.rules refl))

kind_words : (p : PlantTable) → KindWords (plant_kind p) (plant_words p).arities
kind_words (Actions t) = λ e. absurd (let z : ◌≡◌ {A = ℕ} 0 1 = cc in omega arith)
kind_words (Wired w) = λ e. (network_sound w).unary

-- the bytes have the parts of a feeder in their places
pub record Whole (bytes : List ℕ) (f : Feeder) : Type 0 where
  pub head : HasHeader bytes (header_of f)
  pub long : length bytes ≡ called_for (header_of f) bytes
  pub words : HasWords bytes (header_of f) (plant_words f.plant)
  pub plant : HasPlant bytes (header_of f) (plant_words f.plant) f.plant
  pub first : HasFirst bytes (header_of f) (plant_words f.plant) f.first
  pub goal : HasGoal bytes (header_of f) (plant_words f.plant) f.goal
  pub rules : HasRules bytes (header_of f) (plant_words f.plant) f.rules

pub whole_of : (bytes : List ℕ) (f : Feeder) → bytes ≡ encode f → Whole bytes f
unfolding encode
whole_of bytes f e =
    let h = header_of f in
    let v = plant_words f.plant in
    let goal_on = goal_bytes f.goal ++ rule_bytes f.rules in
    let first_on = picture_bytes f.first ++ goal_on in
    let plant_on = plant_bytes f.plant ++ first_on in
    let a = next_part 0 11 11 bytes (header_bytes h) (arity_bytes v ++ plant_on) e refl refl in
    let b = next_part 11 h.predicates (plant_at h) bytes (arity_bytes v) plant_on a.1 (words_long v) refl in
    let size : length (plant_bytes f.plant) ≡ plant_size h.plant h.rows (drop (plant_at h) bytes) =
    sym (plant_long f.plant first_on) ∙ ap (plant_size h.plant h.rows) (sym b.1)
    in
    let c = next_part (plant_at h) _ (facts_at h bytes) bytes (plant_bytes f.plant) first_on b.1 size refl in
    let d = next_part (facts_at h bytes) (2 * h.first) (goal_at h bytes) bytes (picture_bytes f.first) goal_on c.1 (first_long f.first) refl in
    let g = next_part (goal_at h bytes) (3 * h.goal) (rules_at h bytes) bytes (goal_bytes f.goal) (rule_bytes f.rules) d.1 (goal_long f.goal) refl in
    let total : length bytes ≡ called_for h bytes =
    omega (
      arith,
      ap length e,
      length-append (arity_bytes v) plant_on,
      length-append (plant_bytes f.plant) first_on,
      length-append (picture_bytes f.first) goal_on,
      length-append (goal_bytes f.goal) (rule_bytes f.rules),
      words_long v,
      size,
      first_long f.first,
      goal_long f.goal,
      rules_long f.rules,
    )
    in
    record {
      head = record { suits = limits f; same = a.0 };
      long = total;
      words = record { suits = record { objects = refl; kind = kind_words f.plant }; same = b.0 };
      plant = record { suits = record { kind = refl; rows = refl; words = refl }; same = c.0 };
      first = record { suits = f.start; same = d.0 };
      goal = record { suits = f.wanted; same = g.0 };
      rules =
          record {
            suits = record { kind = refl; words = code_known (rule_words f.rules) v f.agree };
            same = ap (λ (t : List ℕ). take (rules_size h.book h.rules) t) g.1 ∙ take_all _ (rule_bytes f.rules) (omega (arith, rules_long f.rules));
          };
    }

-- every check passes
pub whole_passes : (bytes : List ℕ) (f : Feeder) → Whole bytes f → (e : ReadRefusal) → Check e bytes
whole_passes bytes f w refusal.Short = omega (arith, ap length w.head.same, length-take 11 bytes)
whole_passes bytes f w refusal.Version = sym (get_or-take 11 bytes 0 0 (omega arith)) ∙ ap (λ (t : List ℕ). get_or t 0 0) w.head.same
whole_passes bytes f w refusal.Header = (header_of f, w.head)
whole_passes bytes f w refusal.Length = (header_of f, w.head, w.long)
whole_passes bytes f w refusal.Predicates = (header_of f, plant_words f.plant, w.head, w.words)
whole_passes bytes f w refusal.Plant = (header_of f, plant_words f.plant, f.plant, w.head, w.words, w.plant)
whole_passes bytes f w refusal.FirstFacts = (header_of f, plant_words f.plant, f.first, w.head, w.words, w.first)
whole_passes bytes f w refusal.Goal = (header_of f, plant_words f.plant, f.goal, w.head, w.words, w.goal)
whole_passes bytes f w refusal.Rules = (header_of f, plant_words f.plant, f.rules, w.head, w.words, w.rules)

-- parts of the same record are the same
plant_one : (bytes : List ℕ) (h : Header) (v : Vocabulary) (p q : PlantTable) → HasPlant bytes h v p → HasPlant bytes h v q → p ≡ q
plant_one bytes h v (Actions s) (Actions t) x y =
    ap Actions (same_actions s t (x.suits.words ∙ sym y.suits.words)
    (operators_known s.operators t.operators []
    (x.suits.rows ∙ sym y.suits.rows) (operators_hold s) (operators_hold t)
    (append-nil (flat_map operator_bytes s.operators) ∙ sym x.same ∙ y.same)).0)
plant_one bytes h v (Actions s) (Wired w) x y = absurd (let z : ◌≡◌ {A = ℕ} 0 1 = let a = x.suits.kind in let b = y.suits.kind in cc in omega arith)
plant_one bytes h v (Wired u) (Actions t) x y = absurd (let z : ◌≡◌ {A = ℕ} 0 1 = let a = x.suits.kind in let b = y.suits.kind in cc in omega arith)
plant_one bytes h v (Wired u) (Wired w) x y =
    let at : ℕ = 2 * length u.switches in
    let n : at ≡ 2 * length w.switches = ap (λ (k : ℕ). 2 * k) (x.suits.rows ∙ sym y.suits.rows) in
    ap Wired (same_network u w (x.suits.words ∙ sym y.suits.words)
    (switches_known u.switches w.switches (sym (switches_front u _ at x.same refl) ∙ switches_front w _ at y.same n))
    (word_known u.fed w.fed (sym (feeds_back u _ at x.same refl) ∙ feeds_back w _ at y.same n)))

rules_one : (bytes : List ℕ) (h : Header) (v : Vocabulary) (r s : RuleTable) → HasRules bytes h v r → HasRules bytes h v s → r ≡ s
rules_one bytes h v (Formula s) (Formula t) x y =
    ap Formula (same_formula_table s t (x.suits.words ∙ sym y.suits.words)
    (nodes_known s.nodes t.nodes (nodes_proper s) (nodes_proper t) (sym x.same ∙ y.same)))
rules_one bytes h v (Formula s) (Drawn t) x y = absurd (let z : ◌≡◌ {A = ℕ} 0 1 = let a = x.suits.kind in let b = y.suits.kind in cc in omega arith)
rules_one bytes h v (Drawn s) (Formula t) x y = absurd (let z : ◌≡◌ {A = ℕ} 0 1 = let a = x.suits.kind in let b = y.suits.kind in cc in omega arith)
rules_one bytes h v (Drawn s) (Drawn t) x y =
    ap Drawn (same_chart s t (x.suits.words ∙ sym y.suits.words) (lines_known s.lines t.lines (sym x.same ∙ y.same)))

pub whole_one : (bytes : List ℕ) (f g : Feeder) → Whole bytes f → Whole bytes g → f ≡ g
whole_one bytes f g x y =
    let e : header_of f ≡ header_of g = header_one bytes (header_of f) (header_of g) x.head y.head in
    let h = header_of g in
    let v = plant_words g.plant in
    let move : (w : Vocabulary) → HasWords bytes (header_of f) w → HasWords bytes h w = λ w u. subst (λ (k : Header). HasWords bytes k w) e u in
    let u : plant_words f.plant ≡ v = words_one bytes h (plant_words f.plant) v (move _ x.words) y.words in
    let p = plant_one bytes h v f.plant g.plant
    (subst (λ (w : Vocabulary). HasPlant bytes h w f.plant) u (subst (λ (k : Header). HasPlant bytes k (plant_words f.plant) f.plant) e x.plant))
    y.plant
    in
    let i : f.first ≡ g.first =
    same_picture f.first g.first
    (words_list_known (members f.first) (members g.first)
    (sym x.first.same ∙ ap (λ (k : Header). take (2 * k.first) (drop (facts_at k bytes) bytes)) e ∙ y.first.same))
    in
    let o : f.goal ≡ g.goal =
    same_goal f.goal g.goal
    (literals_known f.goal.literals g.goal.literals
    (sym x.goal.same ∙ ap (λ (k : Header). take (3 * k.goal) (drop (goal_at k bytes) bytes)) e ∙ y.goal.same))
    in
    let r = rules_one bytes h v f.rules g.rules
    (subst (λ (w : Vocabulary). HasRules bytes h w f.rules) u (subst (λ (k : Header). HasRules bytes k (plant_words f.plant) f.rules) e x.rules))
    y.rules
    in
    let n : f.limit ≡ g.limit = ap (λ (k : Header). k.limit) e in
    values_one feeder.struct (feeder.the_type).propositions f g (cc)

header_same : (x y : Header) → x.plant ≡ y.plant → x.objects ≡ y.objects → x.predicates ≡ y.predicates → x.rows ≡ y.rows → x.book ≡ y.book
    → x.rules ≡ y.rules → x.goal ≡ y.goal → x.limit ≡ y.limit → x.first ≡ y.first → x ≡ y
header_same x y a b c d e f g h i = values_one header.struct (header.the_type).propositions x y (cc)

rules_count : (k : BookKind) (m n : ℕ) → rules_size k m ≡ rules_size k n → m ≡ n
rules_count book.Formula m n e = omega arith
rules_count book.Chart m n e = omega arith

-- bytes that have the parts of a feeder, under a header of their own, are its record
pub record_of : (bytes : List ℕ) (h : Header) (v : Vocabulary) (f : Feeder) → HasHeader bytes h → length bytes ≡ called_for h bytes
    → HasWords bytes h v → HasPlant bytes h v f.plant → HasFirst bytes h v f.first → HasGoal bytes h v f.goal
    → HasRules bytes h v f.rules → f.limit ≡ h.limit → bytes ≡ encode f
unfolding encode
record_of bytes h v f head total words plant first goal rules limit =
    let p = f.plant in
    let u : plant_words p ≡ v = plant.suits.words in
    let predicates : length v.arities ≡ h.predicates =
    sym (words_long v) ∙ ap length (sym words.same) ∙ length_part 11 h.predicates bytes (omega arith)
    in
    let firsts : 2 * length (members f.first) ≡ 2 * h.first =
    sym (first_long f.first) ∙ ap length (sym first.same) ∙ length_part (facts_at h bytes) (2 * h.first) bytes (omega arith)
    in
    let goals : 3 * length f.goal.literals ≡ 3 * h.goal =
    sym (goal_long f.goal) ∙ ap length (sym goal.same) ∙ length_part (goal_at h bytes) (3 * h.goal) bytes (omega arith)
    in
    let sizes : rules_size h.book (rule_rows f.rules) ≡ rules_size h.book h.rules =
    ap (λ (k : BookKind). rules_size k (rule_rows f.rules)) (sym rules.suits.kind)
    ∙ sym (rules_long f.rules)
    ∙ ap length (sym rules.same)
    ∙ length_part (rules_at h bytes) (rules_size h.book h.rules) bytes (omega arith)
    in
    let same : header_of f ≡ h =
    header_same (header_of f) h plant.suits.kind (ap (λ (w : Vocabulary). w.objects) u ∙ words.suits.objects)
    (ap (λ (w : Vocabulary). length w.arities) u ∙ predicates) plant.suits.rows rules.suits.kind
    (rules_count h.book (rule_rows f.rules) h.rules sizes) (omega arith) limit (omega arith)
    in
    sym (take-append-drop 11 bytes)
    ∙ ap (λ (t : List ℕ). t ++ drop 11 bytes) (head.same ∙ ap header_bytes (sym same))
    ∙ ap (λ (t : List ℕ). header_bytes (header_of f) ++ t)
    (cut 11 h.predicates (plant_at h) bytes refl
    ∙ ap (λ (t : List ℕ). t ++ drop (plant_at h) bytes) (words.same ∙ ap arity_bytes (sym u))
    ∙ ap (λ (t : List ℕ). arity_bytes (plant_words p) ++ t)
    (cut (plant_at h) _ (facts_at h bytes) bytes refl
    ∙ ap (λ (t : List ℕ). t ++ drop (facts_at h bytes) bytes) plant.same
    ∙ ap (λ (t : List ℕ). plant_bytes p ++ t)
    (cut (facts_at h bytes) (2 * h.first) (goal_at h bytes) bytes refl
    ∙ ap (λ (t : List ℕ). t ++ drop (goal_at h bytes) bytes) first.same
    ∙ ap (λ (t : List ℕ). picture_bytes f.first ++ t)
    (cut (goal_at h bytes) (3 * h.goal) (rules_at h bytes) bytes refl
    ∙ ap (λ (t : List ℕ). t ++ drop (rules_at h bytes) bytes) goal.same
    ∙ ap (λ (t : List ℕ). goal_bytes f.goal ++ t)
    (cut_last (rules_at h bytes) (rules_size h.book h.rules) bytes total ∙ rules.same)))))

-- no bytes have two verdicts
pub verdict_one : (bytes : List ℕ) (a b : Result Feeder ReadRefusal) → Verdict bytes a → Verdict bytes b → a ≡ b
verdict_one bytes (Ok f) (Ok g) x y = ap Ok (whole_one bytes f g (whole_of bytes f x) (whole_of bytes g y))
verdict_one bytes (Ok f) (Err e) x y = absurd (y.fails (whole_passes bytes f (whole_of bytes f x) e))
verdict_one bytes (Err d) (Ok g) x y = absurd (x.fails (whole_passes bytes g (whole_of bytes g y) d))
verdict_one bytes (Err d) (Err e) x y =
    ⊎_elim
    (λ l. absurd (x.fails (y.before d l)))
    (λ l. ⊎_elim
    (λ m. absurd (y.fails (x.before e m)))
    (λ m. ap Err (same_refusal d e (omega arith)))
    (cases_lt (read_number e) (read_number d)))
    (cases_lt (read_number d) (read_number e))

-- how long a record is, part by part
pub encode_long : (f : Feeder) → length (encode f) ≡
    11 + length (arity_bytes (plant_words f.plant)) + length (plant_bytes f.plant) + length (picture_bytes f.first) + length (goal_bytes f.goal) + length (rule_bytes f.rules)
unfolding encode
encode_long f =
    omega (
      arith,
      length-append (arity_bytes (plant_words f.plant)) (plant_bytes f.plant ++ (picture_bytes f.first ++ (goal_bytes f.goal ++ rule_bytes f.rules))),
      length-append (plant_bytes f.plant) (picture_bytes f.first ++ (goal_bytes f.goal ++ rule_bytes f.rules)),
      length-append (picture_bytes f.first) (goal_bytes f.goal ++ rule_bytes f.rules),
      length-append (goal_bytes f.goal) (rule_bytes f.rules),
    )

-- the rules take at most 600 bytes
pub rules_most : (r : RuleTable) → length (rule_bytes r) ≤ 600
rules_most (Formula t) = omega (arith, rules_long (Formula t), t.few)
rules_most (Drawn t) = omega (arith, rules_long (Drawn t), t.few)
