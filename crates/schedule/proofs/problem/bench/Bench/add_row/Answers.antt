use Rattle.std.proofs.Common.{◌≡◌, ℕ, ◌<◌, ◌≤◌, max, List, ap, subst}
use Rattle.chains.specs.Lists.{greatest}
use Rattle.schedule.specs.declared.board.Board.{Board}
use Rattle.schedule.specs.Boards.{arrived_at, sent}
use Rattle.schedule.specs.Seen.{seen}
use Rattle.schedule.proofs.Benches.{shown}
use Rattle.schedule.proofs.Boarding.{shows_more}
use Rattle.schedule.proofs.problem.bench.Bench.add_row.Goals as goal

pub invariant_of-self : goal.invariant_of-self
invariant_of-self g c =
    let b = c.args.self.now in
    let M = g.M.Machine.meaning b.machine.now in
    let p = b.problem.now in
    let old = b.board in
    let mid = c.note.new.self in
    let r = c.args.row.now in
    let new : Board = record { rows = mid.rows; placed = mid.placed; free = mid.free; arrivals = c.send.new.arrivals; length = mid.length } in
    let e = c.note.ensures in
    let F : List (List ℕ) → ℕ → ℕ → ℕ = λ t b q. max (arrived_at t b q) (greatest (sent M r b q) p.messages.now) in
    let ea : (b q : ℕ) → b ≤ 256 → q < M.processors → arrived_at new.arrivals b q ≡ F old.arrivals b q =
    λ b q lb lq.
    let one : arrived_at new.arrivals b q ≡ F mid.arrivals b q = c.send.ensures b q lb lq in
    let two : F mid.arrivals b q ≡ F old.arrivals b q = ap (λ (t : List (List ℕ)). F t b q) e.arrivals in
    subst (λ k. arrived_at new.arrivals b q ≡ k) two one in
    let fits = c.requires.fits in
    let s = shows_more M (g.met.M.Machine.lawful b.machine.now) (seen p) p.sized old new r (shown b) c.requires.room fits.0 fits.1 fits.2 e.rows e.placed e.free e.length ea in
    record { few = s.few; wide = s.wide; all = s.all; marks = s.marks; frees = s.frees; arrived = s.arrived; last = s.last; free_soon = s.free_soon; arrive_soon = s.arrive_soon }
