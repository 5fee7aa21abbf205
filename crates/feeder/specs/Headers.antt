-- Headers: the first eleven bytes of a record and the limits of their values.
use Rattle.std.specs.Prelude.{ℕ, Bool, ◌&&◌, List, ◌∷◌, ◌==◌, nat_le}
use Rattle.model.specs.Literals.{word_bytes}
use Rattle.feeder.specs.declared.header.BookKind.{BookKind}
use Rattle.feeder.specs.declared.header.BookKind.TheVariants.{Chart, Formula}
use Rattle.feeder.specs.declared.header.Header.{Header}
use Rattle.feeder.specs.declared.header.PlantKind.{PlantKind}
use Rattle.feeder.specs.declared.header.PlantKind.TheVariants.{Actions, Network}

-- the byte of a plant kind
abbrev pub plant_byte : PlantKind → ℕ
plant_byte Actions = 1
plant_byte Network = 2

-- the byte of a book kind
abbrev pub book_byte : BookKind → ℕ
book_byte Formula = 1
book_byte Chart = 2

-- the version of the record format
abbrev pub version : ℕ
version = 1

-- version, plant kind, objects, predicates, rows, book kind, rules, goal literals, limit, first facts (two bytes)
abbrev pub header_bytes : Header → List ℕ
header_bytes h =
    version
    ∷ (plant_byte h.plant
    ∷ (h.objects
    ∷ (h.predicates
    ∷ (h.rows
    ∷ (book_byte h.book
    ∷ (h.rules
    ∷ (h.goal
    ∷ (h.limit
    ∷ word_bytes h.first))))))))

-- the limits that all records share
abbrev pub counts_fit : Header → Bool
counts_fit h =
    nat_le 1 h.objects
    && (nat_le h.objects 16
    && (nat_le 1 h.predicates
    && (nat_le h.predicates 16
    && (nat_le h.goal 64
    && (nat_le h.limit 24
    && nat_le h.first 512)))))

-- at most 16 operators; a network has three predicates and at most as many switches as sections
abbrev pub plant_fits : PlantKind → Header → Bool
plant_fits Actions h = nat_le h.rows 16
plant_fits Network h = h.predicates == 3 && nat_le h.rows h.objects

-- 1 to 120 nodes; at most 120 lines
abbrev pub book_fits : BookKind → Header → Bool
book_fits Formula h = nat_le 1 h.rules && nat_le h.rules 120
book_fits Chart h = nat_le h.rules 120

-- every value within its limits
abbrev pub within_limits : Header → Bool
within_limits h = counts_fit h && (plant_fits h.plant h && book_fits h.book h)
