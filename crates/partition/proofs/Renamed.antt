-- The messages between blocks that were given other numbers.
use Rattle.std.proofs.Common.{◌≡◌, ℕ, ◌-◌, ◌≤◌, eqb, List, [], ◌∷◌, map, length, sym, refl, ap, ◌∙◌, subst, inl, ⊎_elim, arith}
use Rattle.std.proofs.lemmas.List.{get_or-map, length-append}
use Rattle.std.proofs.lemmas.Bool.{cases_eq, eq-eqb, ne_eqb, cond-true, cond-false}
use Rattle.graph.specs.declared.records.Link.{Link}
use Rattle.chains.specs.declared.message.Message.{Message}
use Rattle.chains.specs.Chains.{Step}
use Rattle.chains.specs.Lists.{In}
use Rattle.chains.proofs.Lists.{of_joined, in_joined}
use Rattle.partition.specs.Blocks.{block_of, crossing, messages}

-- every end of a link is one of the tasks
abbrev pub Ends : ℕ → List Link → Type 0
Ends n links = (l : Link) → In l links → (1 ≤ l.sender) × (l.sender ≤ n) × (1 ≤ l.receiver) × (l.receiver ≤ n)

-- a message is a crossing link
pub record Crossing (links : List Link) (blocks : List ℕ) (m : Message) : Type 0 where
  pub link : Link
  pub known : In link links
  pub leaves : m.from ≡ block_of blocks link.sender
  pub comes : m.to ≡ block_of blocks link.receiver
  pub size : m.size ≡ link.size
  pub apart : m.from ≡ m.to → ⊥

pub of_messages : (links : List Link) (blocks : List ℕ) (m : Message) → In m (messages links blocks) → Crossing links blocks m
of_messages links blocks m i =
    let j = of_joined (crossing blocks) m links i in
    let l = j.0 in
    let s = block_of blocks l.sender in
    let r = block_of blocks l.receiver in
    let x : Message = record { from = s; to = r; size = l.size } in
    ⊎_elim
    (λ (e : s ≡ r). absurd (subst (λ (ms : List Message). In m ms) (cond-true (eqb s r) [] (x ∷ []) (eq-eqb s r e)) j.2))
    (λ (ne : s ≡ r → ⊥).
    ⊎_elim
    (λ (q : m ≡ x). record {
      link = l;
      known = j.1;
      leaves = ap (λ (y : Message). y.from) q;
      comes = ap (λ (y : Message). y.to) q;
      size = ap (λ (y : Message). y.size) q;
      apart = λ e. ne (sym (ap (λ (y : Message). y.from) q) ∙ e ∙ ap (λ (y : Message). y.to) q);
    })
    (λ k. absurd k)
    (subst (λ (ms : List Message). In m ms) (cond-false (eqb s r) [] (x ∷ []) (ne_eqb s r ne)) j.2))
    (cases_eq s r)

pub in_messages : (links : List Link) (blocks : List ℕ) (l : Link) → In l links → (block_of blocks l.sender ≡ block_of blocks l.receiver → ⊥)
    → In (record { from = block_of blocks l.sender; to = block_of blocks l.receiver; size = l.size }) (messages links blocks)
in_messages links blocks l i ne =
    let s = block_of blocks l.sender in
    let r = block_of blocks l.receiver in
    let x : Message = record { from = s; to = r; size = l.size } in
    in_joined (crossing blocks) x l links i (subst (λ (ms : List Message). In x ms) (sym (cond-false (eqb s r) [] (x ∷ []) (ne_eqb s r ne))) (inl refl))

pub messages_few : (links : List Link) (blocks : List ℕ) → length (messages links blocks) ≤ length links
messages_few [] blocks = omega arith
messages_few (l ∷ links) blocks =
    let s = block_of blocks l.sender in
    let r = block_of blocks l.receiver in
    let x : Message = record { from = s; to = r; size = l.size } in
    let ih = messages_few links blocks in
    let whole = length-append (crossing blocks l) (messages links blocks) in
    ⊎_elim
    (λ (e : s ≡ r). omega (arith, whole, ap length (cond-true (eqb s r) [] (x ∷ []) (eq-eqb s r e))))
    (λ (ne : s ≡ r → ⊥). omega (arith, whole, ap length (cond-false (eqb s r) [] (x ∷ []) (ne_eqb s r ne))))
    (cases_eq s r)

-- a step between renamed blocks comes from a step between the blocks
pub step_renamed : (links : List Link) (blocks : List ℕ) (f : ℕ → ℕ) → Ends (length blocks) links → (m : Message) → In m (messages links (map f blocks))
    → (y : ℕ) × (z : ℕ) × Step (messages links blocks) y z × (m.from ≡ f y) × (m.to ≡ f z) × (f y ≡ f z → ⊥)
step_renamed links blocks f ends m i =
    let c = of_messages links (map f blocks) m i in
    let l = c.link in
    let k = ends l c.known in
    let y = block_of blocks l.sender in
    let z = block_of blocks l.receiver in
    let fy : block_of (map f blocks) l.sender ≡ f y = get_or-map f blocks (l.sender - 1) 0 0 (omega (arith, k.0, k.1)) in
    let fz : block_of (map f blocks) l.receiver ≡ f z = get_or-map f blocks (l.receiver - 1) 0 0 (omega (arith, k.2, k.3)) in
    let from : m.from ≡ f y = c.leaves ∙ fy in
    let to : m.to ≡ f z = c.comes ∙ fz in
    let apart : f y ≡ f z → ⊥ = λ e. c.apart (from ∙ e ∙ sym to) in
    (y, z, record { message = record { from = y; to = z; size = l.size }; known = in_messages links blocks l c.known (λ e. apart (ap f e)); leaves = refl; comes = refl }, from, to, apart)
