use Rattle.ltl.proofs.Sound.{progression_sound}
use Rattle.ltl.proofs.laws.progression_is_sound.Goals as goal

pub returns : goal.returns
returns c = progression_sound
