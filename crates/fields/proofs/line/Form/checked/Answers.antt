use Rattle.std.proofs.Common.{◌≡◌, ℕ, List, Ok, Err, Result, IfErr, rules}
use Rattle.fields.specs.Flaws.{TellsFirst}
use Rattle.fields.specs.Formed.{values_of}
use Rattle.fields.specs.declared.fault.LineFault.{LineFault}
use Rattle.fields.specs.declared.fault.LineFault.TheVariants.{Count}
use Rattle.fields.specs.declared.layout.Sort.{Sort}
use Rattle.fields.proofs.FirstFlaw.{refused_first, taken_faultless}
use Rattle.fields.proofs.line.Form.checked.Goals as goal

told : (s : Sort) (requests line : ℕ) (value : List ℕ) (r : Result (Unit {0}) LineFault)
    → IfErr r (λ e. values_of s requests line value ≡ Err e)
    → IfErr r (TellsFirst s requests line value)
told s requests line value (Ok u) is = tt
told s requests line value (Err e) is = refused_first s requests line value e is

pub returns-then-not-contains-clause-first : goal.returns-then-not-contains-clause-first
returns-then-not-contains-clause-first c =
    let f = c.args.self in
    refused_first f.sort f.requests f.line c.args.value.now (Count f.line) (search rules)

pub returns-in_err-formed-clause-first : goal.returns-in_err-formed-clause-first
returns-in_err-formed-clause-first c =
    let f = c.args.self in
    told f.sort f.requests f.line c.args.value.now c.from_residual.result (search rules)

pub returns-in_err-ranged-clause-first : goal.returns-in_err-ranged-clause-first
returns-in_err-ranged-clause-first c =
    let f = c.args.self in
    let result = c.from_residual-in_err-ranged.result in
    told f.sort f.requests f.line c.args.value.now result (search rules)

pub returns-in_err-ordered-clause-first : goal.returns-in_err-ordered-clause-first
returns-in_err-ordered-clause-first c =
    let f = c.args.self in
    let result = c.from_residual-in_err-ordered.result in
    told f.sort f.requests f.line c.args.value.now result (search rules)

pub returns-clause-none : goal.returns-clause-none
returns-clause-none c =
    let f = c.args.self in
    let items = c.formed.new.values.items in
    taken_faultless f.sort f.requests f.line c.args.value.now items (search rules)
