use Rattle.std.proofs.Common.{◌≡◌, ◌^◌, ◌<◌, drop}
use Rattle.std.specs.Str.{all_ascii_digits}
use Rattle.fields.specs.Numbers.{number_after}
use Rattle.fields.proofs.number.digits.Given as goal

abbrev pub invariant-loop-b : goal.invariant-loop-b
invariant-loop-b l = (l.sum < 10 ^ l.b-index) × (number_after l.sum (drop l.b-index l.field) ≡ number_after 0 l.field) × (all_ascii_digits (drop l.b-index l.field) ≡ all_ascii_digits l.field)
