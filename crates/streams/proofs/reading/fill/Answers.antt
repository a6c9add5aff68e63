use Rattle.std.proofs.Common.{◌≡◌, ◌≤◌, ℕ, List, ◌++◌, length, take, sym, subst, arith}
use Rattle.std.proofs.Common.{vec_capacity, Vec, Global}
use Rattle.std.proofs.KnownBytes.{Consumes-trans, Consumes-kept}
use Rattle.std.proofs.lemmas.Grind.{common_steps}
use Rattle.std.specs.Io.KnownBytes.{Consumes}
use Rattle.streams.specs.declared.reading.TheConstants.{LIMIT}
use Rattle.streams.proofs.reading.fill.Goals as goal
use Rattle.streams.proofs.reading.fill.Goals.{in-Ok+else-is_err, in-Err}

-- a read adds what it took, and a failed one took nothing
pub loop-preserved : goal.loop-preserved
loop-preserved g c =
    let a = g.R.Read.remaining c.args.reader.now in
    let m = g.R.Read.remaining c.loop.reader in
    let z = g.R.Read.remaining c.read.new.self in
    let had = c.loop.text.items in
    let P : Vec ℕ Global → Type 0 = λ t. record {
      few : length t.items ≤ LIMIT;
      room : LIMIT ≤ vec_capacity t;
      taken : Consumes a z t.items;
    } in
    elim c.match-read.branch [
      | in-Ok+else-is_err w ↦
          let got = take w.in-Ok.count c.read.new.buf in
          let items : w.extend_from_slice.new.self.items ≡ had ++ got =
          grind (arith, common_steps) in
          let all = Consumes-trans a m z had got c.loop.invariant.taken w.in-Ok.ensures.bytes.0 in
          subst P (sym w.text-is) (record {
            few = grind (arith, common_steps, w.in-Ok.ensures.bound);
            room = grind (arith, common_steps);
            taken = subst (λ (l : List ℕ). Consumes a z l) (sym items) all;
          })
      | in-Err w ↦
          subst P (sym w.text-is) (record {
            few = c.loop.invariant.few;
            room = c.loop.invariant.room;
            taken = Consumes-kept a m z had c.loop.invariant.taken w.in-Err.ensures.bytes;
          })
    ]
