-- The walk along a sender's list of links.
use Rattle.std.proofs.Common.{◌≡◌, ℕ, ◌+◌, ◌-◌, ◌<◌, ◌≤◌, Bool, cond, eqb, List, length, get_or, take, Some, sym, refl, ap, ◌∙◌, arith}
use Rattle.std.proofs.lemmas.List.{take_all, get_or_read}
use Rattle.std.proofs.lemmas.Bool.{and_left, eqb-true}
use Rattle.std.proofs.lemmas.Bool.Decides.{nat_tests}
use Rattle.graph.specs.declared.records.Link.{Link}
use Rattle.graph.specs.Net.{no_link, newest_of, joins, linked, Threaded}
use Rattle.graph.specs.Walks.{some_number}
use Rattle.graph.proofs.Walks.{some_is}
use Rattle.graph.proofs.LastOfs.{last_bound, last_hit, last_through, last_take_more}

module _ (links : List Link) (s r : ℕ) where
  abbrev by : Link → Bool
  by l = eqb l.sender s

  abbrev pair : Link → Bool
  pair = joins s r

  -- the walk stands at the link `at` of s, and has passed no link of the pair
  pub record Seeking (at : ℕ) : Type 0 where
    pub bound : at ≤ length links
    pub newest : at ≡ newest_of (take at links) s
    pub same : linked links s r ≡ linked (take at links) s r

  down : (i n : ℕ) → i ≤ length links → n ≡ newest_of (take i links) s → linked links s r ≡ linked (take i links) s r → Seeking n
  down i n h e l =
      let b : newest_of (take i links) s ≤ i = last_bound by links no_link i h in
      let t : newest_of (take i links) s ≡ newest_of (take (newest_of (take i links) s) links) s = last_through by by (λ x y. y) links no_link i h in
      let u : linked (take i links) s r ≡ linked (take (newest_of (take i links) s) links) s r = last_through by pair (λ x y. and_left _ _ y) links no_link i h in
      let all : Seeking (newest_of (take i links) s) = record { bound = omega arith; newest = t; same = l ∙ u } in
      rw e all

  pub seek_start : (n : ℕ) → n ≡ newest_of links s → Seeking n
  seek_start n e = let whole = take_all (length links) links (omega arith) in down (length links) n (omega arith) (rw whole e) (rw whole refl)

  -- at the link that is read there
  module _ (at : ℕ) (nonzero : at ≡ 0 → ⊥) (seeking : Seeking at) (l : Link) (read : l ≡ get_or links (at - 1) l) where
    back : at - 1 + 1 ≡ at
    back = omega arith

    within : at - 1 < length links
    within = omega (arith, seeking.bound)

    is : get_or links (at - 1) no_link ≡ l
    is = sym (get_or_read links (at - 1) l within read no_link)

    more : linked (take at links) s r ≡ cond (pair l) at (linked (take (at - 1) links) s r)
    more = rw (back, is) at (last_take_more pair links (at - 1) no_link within)

    sender : l.sender ≡ s
    sender = eqb-true _ _ (rw is at (last_hit by links no_link at (at - 1) seeking.bound (sym seeking.newest ∙ sym back)))

    next : Threaded links → l.next ≡ newest_of (take (at - 1) links) s
    next t = rw is at (t (at - 1) within) ∙ ap (newest_of (take (at - 1) links)) sender

    pub at_found : l.receiver ≡ r → Some at ≡ some_number (linked links s r)
    at_found e = let same = seeking.same in let here = more in let by_s = sender in let found : at ≡ linked links s r = grind (arith, nat_tests) in some_is at nonzero ∙ ap some_number found

    pub at_next : Threaded links → (l.receiver ≡ r → ⊥) → Seeking l.next
    at_next t ne = let here = more in down (at - 1) l.next (omega arith) (next t) (seeking.same ∙ grind (arith, nat_tests))

    pub at_less : Threaded links → l.next < at
    at_less t = omega (arith, next t, last_bound by links no_link (at - 1) (omega arith))
