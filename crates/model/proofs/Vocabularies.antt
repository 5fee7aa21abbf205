-- Vocabularies: one is known by its objects and its arities, and they are sound.
use Rattle.std.proofs.Common.{◌≡◌}
use denote.Struct.Record.{values_one}
use Rattle.std.specs.Coded.{coded_list}
use Rattle.model.specs.contracts.vocabulary.Arity as arity
use Rattle.model.specs.contracts.vocabulary.Vocabulary.{struct, the_propositions}
use Rattle.model.specs.declared.vocabulary.Vocabulary.{Vocabulary}
use Rattle.model.specs.Facts.{SoundVocabulary}
use Rattle.model.specs.Vocabularies.{arity_list}

pub vocabulary_sound : (v : Vocabulary) → SoundVocabulary v.objects (arity_list v)
vocabulary_sound v = record { low = v.low; high = v.high; some = v.some; few = v.few; bound = v.bound }

pub same_vocabulary : (x y : Vocabulary) → x.objects ≡ y.objects → arity_list x ≡ arity_list y → x ≡ y
same_vocabulary x y o e = values_one struct (the_propositions (coded_list (arity.the_row).coded) (arity.the_row).coded) x y (cc)
