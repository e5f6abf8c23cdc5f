-- A task's list of links holds exactly the links that it sends.
use Rattle.std.proofs.Common.{◌≡◌, ℕ, zero, suc, ◌+◌, ◌-◌, ◌≤◌, Bool, false, eqb, List, length, get_or, take, refl, ap, ◌∙◌, add-one, arith}
use Rattle.std.proofs.lemmas.List.{take_all}
use Rattle.std.proofs.lemmas.Bool.Decides.{nat_tests}
use Rattle.graph.specs.declared.records.Link.{Link}
use Rattle.graph.specs.Net.{Net, no_link, newest_of, Sound, Threaded}
use Rattle.graph.specs.Outgoing.{along, sent_by, ListsAreExact}
use Rattle.graph.proofs.LastOfs.{last_bound, last_take_more}

module _ (links : List Link) (threaded : Threaded links) (s : ℕ) where
  abbrev by : Link → Bool
  by l = eqb l.sender s

  follow : (i most : ℕ) → i ≤ length links → newest_of (take i links) s ≤ most → along links most (newest_of (take i links) s) ≡ sent_by links i s
  follow zero zero h le = refl
  follow zero (suc most) h le = refl
  follow (suc i) zero h le =
      let new = rw add-one at (last_take_more by links i no_link (omega arith)) in
      let none : by (get_or links i no_link) ≡ false = grind (arith, nat_tests) in
      let ih = follow i zero (omega arith) (grind (arith, nat_tests)) in
      grind (arith, nat_tests)
  follow (suc i) (suc most) h le =
      let new = last_take_more by links i no_link (omega arith) in
      let next = threaded i (omega arith) in
      let bound = last_bound by links no_link i (omega arith) in
      let older = follow i most (omega arith) in
      let ih = follow i (suc most) (omega arith) in
      let back : suc i - 1 ≡ i = omega arith in
      grind (arith, nat_tests, add-one i)

pub lists_are_exact : (net : Net) → Sound net.tasks net.links → ListsAreExact net
lists_are_exact net sound i more lt =
    let links = net.links in
    let whole = take_all (length links) links (omega arith) in
    let bound = last_bound (λ l. eqb l.sender (i + 1)) links no_link (length links) (omega arith) in
    ap (along links (length links + more)) (sound.headed i lt) ∙ rw whole at (follow links sound.threaded (i + 1) (length links) (length links + more) (omega arith) (omega arith))
