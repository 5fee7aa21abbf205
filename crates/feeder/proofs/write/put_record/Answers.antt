-- The parts of a record are written one behind the other. Where there is no room for one, there is none for the record.
use Rattle.std.proofs.Common.{◌≡◌, true, List, [], ◌∷◌, ℕ, ◌++◌, refl, ap, ◌∙◌}
use Rattle.std.specs.List.{flat_map}
use Rattle.std.specs.Prelude.{None, Option, Some}
use Rattle.codec.specs.declared.writer.Writer.{Writer}
use Rattle.codec.specs.Writing.{Wrote, WroteAll}
use Rattle.model.specs.Ascents.{fact_numbers}
use Rattle.model.specs.declared.fact.Fact.{Fact}
use Rattle.model.specs.declared.fact.Literal.{Literal}
use Rattle.model.specs.declared.vocabulary.Arity.{Arity}
use Rattle.model.specs.declared.vocabulary.Vocabulary.{Vocabulary}
use Rattle.model.specs.Facts.{arity_byte}
use Rattle.model.specs.Literals.{fact_bytes, literal_bytes, word_bytes}
use Rattle.model.specs.Pictures.{members}
use Rattle.feeder.specs.declared.header.Header.{Header}
use Rattle.feeder.specs.declared.record.Feeder.{Feeder}
use Rattle.feeder.specs.Headers.{header_bytes, within_limits}
use Rattle.feeder.specs.Records.{arity_bytes, encode, goal_bytes, header_of, picture_bytes}
use Rattle.feeder.specs.Tables.{plant_bytes, plant_words, rule_bytes}
use Rattle.feeder.proofs.Known.{fact_codes}
use Rattle.feeder.proofs.Whole.{limits}
use Rattle.feeder.proofs.Writing.{short_before, wrote_plain, wrote_same, wrote_then}
use Rattle.feeder.proofs.write.put_record.Goals as goal

-- a record from one of its parts on
abbrev from_goal : Feeder → List ℕ
from_goal f = goal_bytes f.goal ++ rule_bytes f.rules

abbrev from_first : Feeder → List ℕ
from_first f = picture_bytes f.first ++ from_goal f

abbrev from_plant : Feeder → List ℕ
from_plant f = plant_bytes f.plant ++ from_first f

abbrev from_words : Feeder → List ℕ
from_words f = arity_bytes (plant_words f.plant) ++ from_plant f

whole : (f : Feeder) → header_bytes (header_of f) ++ from_words f ≡ encode f
unfolding encode
whole f = refl

-- the parts that are written in one line each
header : (f : Feeder) (before after : Writer) (h : Header) (bytes : List ℕ) (r : Option (Unit {0})) → h ≡ header_of f
    → (within_limits h ≡ true → bytes ≡ header_bytes h) → Wrote before bytes after r → Wrote before (header_bytes (header_of f)) after r
header f before after h bytes r e k w = wrote_same before after bytes (header_bytes (header_of f)) r (k (ap within_limits e ∙ limits f) ∙ ap header_bytes e) w

words : (f : Feeder) (before after : Writer) (v : Vocabulary) (items : List Arity) (r : Option (Unit {0})) → v ≡ plant_words f.plant → items ≡ v.arities
    → WroteAll (λ a. arity_byte a ∷ []) (λ _. true) 1 items before after r → Wrote before (arity_bytes (plant_words f.plant)) after r
words f before after v items r e s w =
    wrote_plain (λ a. arity_byte a ∷ []) 1 items (plant_words f.plant).arities before after r (s ∙ ap (λ (v : Vocabulary). v.arities) e) w

first : (f : Feeder) (before after : Writer) (facts items : List Fact) (r : Option (Unit {0})) → fact_numbers facts ≡ members f.first → items ≡ facts
    → WroteAll fact_bytes (λ _. true) 2 items before after r → Wrote before (picture_bytes f.first) after r
first f before after facts items r e s w =
    wrote_same before after (flat_map fact_bytes facts) (picture_bytes f.first) r (fact_codes facts ∙ ap (flat_map word_bytes) e)
    (wrote_plain fact_bytes 2 items facts before after r s w)

wanted : (f : Feeder) (before after : Writer) (items : List Literal) (r : Option (Unit {0})) → items ≡ f.goal.literals
    → WroteAll literal_bytes (λ _. true) 3 items before after r → Wrote before (goal_bytes f.goal) after r
wanted f before after items r s w = wrote_plain literal_bytes 3 items f.goal.literals before after r s w

-- where the header and the arities are written, what follows them makes it the record
front_then : (f : Feeder) (before head mid after : Writer) (r : Option (Unit {0})) → Wrote before (header_bytes (header_of f)) head (Some tt)
    → Wrote head (arity_bytes (plant_words f.plant)) mid (Some tt) → Wrote mid (from_plant f) after r → Wrote before (encode f) after r
front_then f before head mid after r u w x =
    wrote_same before after _ (encode f) r (whole f)
    (wrote_then before head after (header_bytes (header_of f)) _ r u (wrote_then head mid after (arity_bytes (plant_words f.plant)) (from_plant f) r w x))

pub returns-in_err-put : goal.returns-in_err-put
returns-in_err-put c =
    let f = c.args.feeder.now in
    let before = c.args.writer.now in
    let after = c.put.new.self in
    let u = header f before after c.header.result c.encode.result None c.header.ensures c.encode.ensures c.in_err-put.ensures in
    rw c.from_residual.ensures
    (wrote_same before after _ (encode f) None (whole f) (short_before before after (header_bytes (header_of f)) (from_words f) u))

pub returns-in_err-put_all : goal.returns-in_err-put_all
returns-in_err-put_all c =
    let f = c.args.feeder.now in
    let before = c.args.writer.now in
    let head = c.put.new.self in
    let after = c.put_all.new.self in
    let u = header f before head c.header.result c.encode.result (Some tt) c.header.ensures c.encode.ensures c.in_ok-put.ensures in
    let w = words f head after c.vocabulary.result c.as_slice.result.now None c.vocabulary.ensures c.as_slice.ensures.same c.in_err-put_all.ensures in
    rw c.from_residual-in_err-put_all.ensures
    (wrote_same before after _ (encode f) None (whole f)
    (wrote_then before head after (header_bytes (header_of f)) (from_words f) None u
    (short_before head after (arity_bytes (plant_words f.plant)) (from_plant f) w)))

pub returns-in_err-put_plant : goal.returns-in_err-put_plant
returns-in_err-put_plant c =
    let f = c.args.feeder.now in
    let before = c.args.writer.now in
    let head = c.put.new.self in
    let mid = c.put_all.new.self in
    let after = c.put_plant.new.writer in
    let u = header f before head c.header.result c.encode.result (Some tt) c.header.ensures c.encode.ensures c.in_ok-put.ensures in
    let w = words f head mid c.vocabulary.result c.as_slice.result.now (Some tt) c.vocabulary.ensures c.as_slice.ensures.same c.in_ok-put_all.ensures in
    rw c.from_residual-in_err-put_plant.ensures
    (front_then f before head mid after None u w (short_before mid after (plant_bytes f.plant) (from_first f) c.in_err-put_plant.ensures))

pub returns-in_err-put_all-2 : goal.returns-in_err-put_all-2
returns-in_err-put_all-2 c =
    let f = c.args.feeder.now in
    let before = c.args.writer.now in
    let head = c.put.new.self in
    let mid = c.put_all.new.self in
    let plant = c.put_plant.new.writer in
    let after = c.put_all-2.new.self in
    let u = header f before head c.header.result c.encode.result (Some tt) c.header.ensures c.encode.ensures c.in_ok-put.ensures in
    let w = words f head mid c.vocabulary.result c.as_slice.result.now (Some tt) c.vocabulary.ensures c.as_slice.ensures.same c.in_ok-put_all.ensures in
    let p = first f plant after c.members.result c.as_slice-2.result.now None c.members.ensures.same c.as_slice-2.ensures.same c.in_err-put_all-2.ensures in
    rw c.from_residual-in_err-put_all-2.ensures
    (front_then f before head mid after None u w
    (wrote_then mid plant after (plant_bytes f.plant) (from_first f) None c.in_ok-put_plant.ensures
    (short_before plant after (picture_bytes f.first) (from_goal f) p)))

pub returns-in_err-put_all-3 : goal.returns-in_err-put_all-3
returns-in_err-put_all-3 c =
    let f = c.args.feeder.now in
    let before = c.args.writer.now in
    let head = c.put.new.self in
    let mid = c.put_all.new.self in
    let plant = c.put_plant.new.writer in
    let picture = c.put_all-2.new.self in
    let after = c.put_all-3.new.self in
    let u = header f before head c.header.result c.encode.result (Some tt) c.header.ensures c.encode.ensures c.in_ok-put.ensures in
    let w = words f head mid c.vocabulary.result c.as_slice.result.now (Some tt) c.vocabulary.ensures c.as_slice.ensures.same c.in_ok-put_all.ensures in
    let p = first f plant picture c.members.result c.as_slice-2.result.now (Some tt) c.members.ensures.same c.as_slice-2.ensures.same c.in_ok-put_all-2.ensures in
    let g = wanted f picture after c.as_slice-3.result.now None c.as_slice-3.ensures.same c.in_err-put_all-3.ensures in
    rw c.from_residual-in_err-put_all-3.ensures
    (front_then f before head mid after None u w
    (wrote_then mid plant after (plant_bytes f.plant) (from_first f) None c.in_ok-put_plant.ensures
    (wrote_then plant picture after (picture_bytes f.first) (from_goal f) None p
    (short_before picture after (goal_bytes f.goal) (rule_bytes f.rules) g))))

pub returns : goal.returns
returns c =
    let f = c.args.feeder.now in
    let before = c.args.writer.now in
    let head = c.put.new.self in
    let mid = c.put_all.new.self in
    let plant = c.put_plant.new.writer in
    let picture = c.put_all-2.new.self in
    let goals = c.put_all-3.new.self in
    let after = c.put_rules.new.writer in
    let r = c.put_rules.result in
    let u = header f before head c.header.result c.encode.result (Some tt) c.header.ensures c.encode.ensures c.in_ok-put.ensures in
    let w = words f head mid c.vocabulary.result c.as_slice.result.now (Some tt) c.vocabulary.ensures c.as_slice.ensures.same c.in_ok-put_all.ensures in
    let p = first f plant picture c.members.result c.as_slice-2.result.now (Some tt) c.members.ensures.same c.as_slice-2.ensures.same c.in_ok-put_all-2.ensures in
    let g = wanted f picture goals c.as_slice-3.result.now (Some tt) c.as_slice-3.ensures.same c.in_ok-put_all-3.ensures in
    front_then f before head mid after r u w
    (wrote_then mid plant after (plant_bytes f.plant) (from_first f) r c.in_ok-put_plant.ensures
    (wrote_then plant picture after (picture_bytes f.first) (from_goal f) r p
    (wrote_then picture goals after (goal_bytes f.goal) (rule_bytes f.rules) r g c.put_rules.ensures)))
