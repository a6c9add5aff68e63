use Rattle.listing.proofs.SoundRuns.{sound_laws}
use Rattle.listing.proofs.sound_laws_hold.Goals as goal

pub returns : goal.returns
returns c = sound_laws
