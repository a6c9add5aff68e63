use Rattle.std.proofs.Common.{◌≡◌, ℕ, List, ◌++◌, Some, None, Option, sym, ap, ◌∙◌, Bor, MatchOption}
use Rattle.std.specs.Option.{option_map}
use Rattle.std.proofs.lemmas.Slice.Eq.{strip_prefix_is}
use Rattle.fields.specs.Cuts.{after}
use Rattle.fields.proofs.Cutting.{after_none}
use Rattle.fields.proofs.Splits.{after_key}
use Rattle.ticket.proofs.entry.Line.after.Goals as goal
use Rattle.std.proofs.lemmas.Bool.Decides.{Decides-eqb}

told : (key text : List ℕ) (r : Option (Bor (List ℕ))) → MatchOption r ((rest : List ℕ) → text ≡ key ++ rest → ⊥) (λ x. text ≡ key ++ x.now) → option_map (λ x. x.now) r ≡ after key text
told key text None h = sym (after_none key text h)
told key text (Some x) h = sym (ap (after key) h ∙ after_key key x.now)

pub returns : goal.returns
returns c =
    told c.args.key.now c.args.self.text.now c.strip_prefix.result
    (strip_prefix_is Decides-eqb c.args.self.text.now c.args.key.now c.strip_prefix.result c.strip_prefix.ensures.cases)
