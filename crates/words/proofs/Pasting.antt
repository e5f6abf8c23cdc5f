-- Words that are written one after another.
use Rattle.std.proofs.Common.{◌≡◌, ℕ, ◌+◌, ◌*◌, ◌<◌, ◌≤◌, List, [], ◌∷◌, ◌++◌, length, get_or, take, drop, sym, refl, ap, ◌∙◌, ap₂, arith}
use lib.Seq.{paste}
use Rattle.std.specs.List.{flat_map}
use Rattle.std.proofs.lemmas.List.{length-append, length-take-le, take_more, append-nil}
use Rattle.std.proofs.lemmas.Grind.{flat_map-append}
use Rattle.std.proofs.lemmas.Bool.{cond-true, le-leb}
use borrow.Rule.Slice.PartMut.{put_mid}
use Rattle.std.proofs.lemmas.Slice.{put_mid-paste}
use Rattle.std.proofs.lemmas.List.Edits.{paste_all, paste-paste}
use Rattle.graph.specs.declared.records.Link.{Link}
use Rattle.graph.specs.declared.records.Task.{Task}
use Rattle.graph.specs.Net.{Net}
use Rattle.words.specs.Words.{task_words, link_words, needed, written}
use Rattle.words.proofs.Pieces.{length_pieces}

-- the words of one record more
pub put_record : {X : Type 0} (f : X → List ℕ) (w : ℕ) (wide : (x : X) → length (f x) ≡ w) (E : List ℕ) (at : ℕ) (xs : List X) (was new : List ℕ) (i k : ℕ) (x : X) → i < length xs → at ≤ length E → x ≡ get_or xs i x → new ≡ f x → k ≡ w
    → was ≡ paste E at (flat_map f (take i xs)) (w * i) → put_mid (at + w * i) k was new ≡ paste E at (flat_map f (take (i + 1) xs)) (w * (i + 1))
put_record f w wide E at xs was new i k x lt room is en ek e =
    let S = flat_map f (take i xs) in
    let le : i ≤ length xs = omega arith in
    let n : w * i ≡ length S = sym (length_pieces f w wide (take i xs) ∙ ap (λ j. w * j) (length-take-le i xs le)) in
    let m : w ≡ length (f x) = sym (wide x) in
    let next : w * i + w ≡ w * (i + 1) = grind arith in
    let more : flat_map f (take (i + 1) xs) ≡ S ++ f x =
    ap (flat_map f) (take_more xs i x lt ∙ ap (λ y. take i xs ++ y ∷ []) (sym is)) ∙ flat_map-append f (take i xs) (x ∷ []) ∙ ap (λ t. S ++ t) (append-nil (f x)) in
    put_mid-paste (at + w * i) k was new (f x) w en (sym ek) m
    ∙ ap (λ (o : List ℕ). paste o (at + w * i) (f x) w) e
    ∙ paste-paste E at S (f x) (w * i) w n m room
    ∙ ap (paste E at (S ++ f x)) next ∙ ap (λ (t : List ℕ). paste E at t (w * (i + 1))) (sym more)

-- three words at the front, and then the tasks and the links
pub put_words : (E : List ℕ) (a b c : ℕ) (tasks : List Task) (links : List Link) → 3 + 2 * length tasks + 3 * length links ≤ length E → (h x y : List ℕ)
    → h ≡ paste E 0 (a ∷ b ∷ c ∷ []) 3
    → x ≡ paste h 3 (flat_map task_words tasks) (2 * length tasks)
    → y ≡ paste x (3 + 2 * length tasks) (flat_map link_words links) (3 * length links)
    → y ≡ (a ∷ b ∷ c ∷ (flat_map task_words tasks ++ flat_map link_words links)) ++ drop (3 + 2 * length tasks + 3 * length links) E
put_words E a b c tasks links room h x y first ex ey =
    let T = flat_map task_words tasks in
    let L = flat_map link_words links in
    let H : List ℕ = a ∷ b ∷ c ∷ [] in
    let n = 2 * length tasks in
    let m = 3 * length links in
    let nT : length T ≡ n = length_pieces task_words 2 (λ _. refl) tasks in
    let nL : length L ≡ m = length_pieces link_words 3 (λ _. refl) links in
    let zn : 0 + (3 + n) ≡ 3 + n = omega arith in
    let tasked : x ≡ paste E 0 (H ++ T) (3 + n) = ex ∙ ap (λ (w : List ℕ). paste w 3 T n) first ∙ paste-paste E 0 H T 3 n refl (sym nT) (omega arith) in
    let len : length (H ++ T) ≡ 3 + n = omega (arith, nT) in
    let linked : y ≡ paste E 0 ((H ++ T) ++ L) (3 + n + m) = ey ∙ ap (λ (w : List ℕ). paste w (3 + n) L m) tasked ∙ ap (λ k. paste (paste E 0 (H ++ T) (3 + n)) k L m) (sym zn) ∙ paste-paste E 0 (H ++ T) L (3 + n) m (sym len) (sym nL) (omega arith) in
    let whole : 3 + n + m ≡ length ((H ++ T) ++ L) = omega (arith, nT, nL, length-append T L) in
    let z : 0 + (3 + n + m) ≡ 3 + n + m = omega arith in
    linked ∙ paste_all E 0 ((H ++ T) ++ L) (3 + n + m) whole ∙ ap (λ k. ((H ++ T) ++ L) ++ drop k E) z

-- the same of a graph whose tasks and links are known by other names
module _ (net : Net) (tasks : List Task) (links : List Link) (et : tasks ≡ net.tasks) (el : links ≡ net.links) (E : List ℕ)
    (room : 3 + 2 * length tasks + 3 * length links ≤ length E) where
  named : Net
  named = record { tasks = tasks; links = links }

  is_named : named ≡ net
  unfolding named
  is_named = ap₂ (λ (ts : List Task) (ls : List Link). let n : Net = record { tasks = ts; links = ls } in n) et el

  pub write_done : (h x y : List ℕ) → h ≡ paste E 0 (1 ∷ length tasks ∷ length links ∷ []) 3 → x ≡ paste h 3 (flat_map task_words tasks) (2 * length tasks)
      → y ≡ paste x (3 + 2 * length tasks) (flat_map link_words links) (3 * length links) → y ≡ written net E
  unfolding named
  write_done h x y eh ex ey = put_words E 1 (length tasks) (length links) tasks links room h x y eh ex ey ∙ sym (cond-true _ _ _ (le-leb (needed named) (length E) room)) ∙ ap (λ n. written n E) is_named
