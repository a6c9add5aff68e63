-- What a layer means, over oracles of any type: from its fields, and from what is meant below. Assumes nothing.
use Rattle.oracle.specs.Meaning.{Meaning}
use Rattle.layers.specs.Layered.{both, quota, cover}
use Rattle.layers.specs.Listed.{kept_list}
use Rattle.layers.specs.declared.both.Both.{Both}
use Rattle.layers.specs.declared.cover.Cover.{Cover}
use Rattle.layers.specs.declared.quota.Quota.{Quota}

-- Both, over what its sides mean
abbrev pub both_meaning : {L R : Type 0} → (L → Meaning) → (R → Meaning) → Both L R → Meaning
both_meaning left right o = both (left o.left) (right o.right)

-- Quota, over what is meant below
abbrev pub quota_meaning : {O : Type 0} → (O → Meaning) → Quota O → Meaning
quota_meaning below o = quota o.number o.label (below o.below)

-- Cover, over what is meant below
abbrev pub cover_meaning : {O : Type 0} → (O → Meaning) → Cover O → Meaning
cover_meaning below o = cover (kept_list o.fits) (kept_list o.unfits) (below o.below)
