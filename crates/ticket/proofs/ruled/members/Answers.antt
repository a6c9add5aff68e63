use Rattle.std.proofs.Common.{◌≡◌, List, [], ◌∷◌, map, drop, refl, ap, ◌∙◌, rules}
use Rattle.std.specs.List.{fold}
use Rattle.std.proofs.lemmas.Iterator.{YieldsList-from_slice}
use Rattle.std.proofs.lemmas.Iterator.Adapters.{YieldsList-from_skip}
use Rattle.std.proofs.lemmas.Iterator.Consumers.{YieldsList-at, fold_from_yields_List}
use Rattle.sets.specs.Masks.{number_of, mask}
use Rattle.sets.specs.Members.{added, added_all}
use Rattle.sets.specs.declared.Members.{Members}
use Rattle.fields.specs.Formed.{amount}
use Rattle.fields.specs.declared.value.Value.{Value}
use Rattle.ticket.proofs.ruled.members.Goals as goal

-- a set with what one value says
abbrev with_value : Members 0 → Value → Members 0
with_value set v = mask (added (number_of set) (amount v))

with_all : (set : Members 0) (vs : List Value) → number_of (fold with_value set vs) ≡ added_all (number_of set) (map amount vs)
with_all set [] = refl
with_all set (v ∷ vs) = with_all (with_value set v) vs

pub returns : goal.returns
returns c =
    let road = YieldsList-from_skip 2 (YieldsList-at c.skip.ensures.source (YieldsList-from_slice c.args.values.now cc)) c.skip.ensures.count in
    let same = fold_from_yields_List _ with_value _ _ c.fold.ensures.ran road (λ a x b q k. search rules) in
    ap number_of same ∙ with_all c.empty.result (drop 2 c.args.values.now) ∙ ap (λ n. added_all n (map amount (drop 2 c.args.values.now))) c.empty.ensures
