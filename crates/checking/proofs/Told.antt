-- A machine by what it answers is the machine, where it is asked about rows that are on it and sizes that it answers for.
use Rattle.std.proofs.Common.{◌≡◌, ℕ, ◌+◌, ◌<◌, ◌≤◌, Bool, cond, ◌&&◌, eqb, ltb, List, [], ◌∷◌, ◌++◌, length, Some, None, Option, refl, ap, ap₂, inl, inr}
use Rattle.std.proofs.lemmas.Bool.{lt-ltb, le-leb}
use Rattle.chains.specs.declared.message.Message.{Message}
use Rattle.chains.specs.Lists.{In}
use Rattle.machine.specs.Model.{Model}
use Rattle.schedule.specs.declared.rows.Row.{Row}
use Rattle.checking.specs.Checking.{first_after, first_row, strays, comes_late, is_awaited, lacks}
use Rattle.checking.specs.Questions.{Answerable, Housed, told}
use Rattle.checking.proofs.Somes.{any_alike}
use Rattle.checking.proofs.Validity.{housed_from}

told_delay : (M : Model) (p q s : ℕ) → p < M.processors → q < M.processors → s ≤ 1000000 → (told M).delay p q s ≡ M.delay p q s
told_delay M p q s l k h = rw (lt-ltb p M.processors l, lt-ltb q M.processors k, le-leb s 1000000 h) refl

told_lacks : (M : Model) (ms : List Message) (rows : List Row) (r : Row) → Housed M.processors rows → Answerable ms → In r rows
    → lacks (told M) ms rows r ≡ lacks M ms rows r
told_lacks M ms rows r housed small here =
    any_alike (is_awaited (told M) rows r) (is_awaited M rows r) ms (λ m i.
    ap (λ (late : Bool). eqb m.to r.block && late) (any_alike (comes_late (told M) r m) (comes_late M r m) rows (λ y j.
    ap (λ (d : ℕ). eqb y.block m.from && ltb r.start (y.finish + d)) (told_delay M y.processor r.processor m.size (housed y j) (housed r here) (small m i)))))

-- tests of rows alone that agree on all of these take the same row first
first_alike : (p q : Row → Bool) (above rows : List Row) → ((r : Row) → In r rows → p r ≡ q r) → first_after (λ ab r. p r) above rows ≡ first_after (λ ab r. q r) above rows
first_alike p q above [] h = refl
first_alike p q above (r ∷ rows) h =
    ap₂ (λ (b : Bool) (o : Option ℕ). cond b (Some (length above + 1)) o) (h r (inl refl)) (first_alike p q (above ++ (r ∷ [])) rows (λ x i. h x (inr i)))

-- so for rows on processors that are there it is the same row that first lacks its data
pub told_first : (M : Model) (ms : List Message) (rows : List Row) → first_row (λ above r. strays M.processors r) rows ≡ None → Answerable ms
    → first_row (λ above r. lacks (told M) ms rows r) rows ≡ first_row (λ above r. lacks M ms rows r) rows
told_first M ms rows stray small =
    first_alike (lacks (told M) ms rows) (lacks M ms rows) [] rows (λ r i. told_lacks M ms rows r (housed_from M.processors rows stray) small i)
