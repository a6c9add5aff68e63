-- Each turn keeps a state sound, and so does every run from the first state. Assumes nothing.
use Rattle.std.proofs.Common.{ℕ, ◌≤◌, Bool, List, [], ◌∷◌}
use Rattle.sets.specs.Requests.{widest}
use Rattle.listing.specs.Orders.{IsOrder}
use Rattle.listing.specs.Sound.{IsSound, EveryStateSound, SoundLaws}
use Rattle.listing.specs.Steps.{State, start}
use Rattle.listing.specs.Turns.{turn, after}
use Rattle.listing.proofs.RunTurns.{by_turns}
use Rattle.listing.proofs.SoundStates.{sound_start, sound_lists, sound_answered, sound_checks}

module _ (before : ℕ → ℕ → Bool) (width : ℕ) (fit : ℕ → Bool) (narrow : width ≤ widest) (order : IsOrder width before) where
  -- a turn from a sound state leaves a sound one
  turn_sound : (g : ℕ) (st : State) → IsSound width st → IsSound width (turn before width fit g st).left
  turn_sound =
      by_turns before width fit (λ s t. IsSound width s → IsSound width t.left)
      (λ st x m sound. sound_lists before width st x narrow order sound m)
      (λ st m sound. sound)
      (λ st m sound. sound)
      (λ st s m sound. sound)
      (λ st s x m e sound. sound_answered before width st s (fit s) narrow order sound m)
      (λ st s t m e later sound. later (sound_answered before width st s (fit s) narrow order sound m))

  -- and so do several
  after_sound : (allowed : List ℕ) (st : State) → IsSound width st → IsSound width (after before width fit allowed st)
  after_sound [] st sound = sound
  after_sound (g ∷ allowed) st sound = after_sound allowed (turn before width fit g st).left (turn_sound g st sound)

-- so every state that is come to from the first is sound
every_state_sound : EveryStateSound
every_state_sound before width fit allowed narrow order = after_sound before width fit narrow order allowed start (sound_start width)

pub sound_laws : SoundLaws
sound_laws = (sound_start, sound_lists, sound_answered, sound_checks, every_state_sound)
