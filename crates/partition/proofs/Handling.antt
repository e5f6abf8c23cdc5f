-- The messages of a partition go between blocks of its tasks, and a machine answers for their sizes.
use Rattle.std.proofs.Common.{◌≡◌, ℕ, ◌<◌, ◌≤◌, List, length, slice_index_or, sym, subst, arith}
use Rattle.graph.specs.declared.records.Link.{Link}
use Rattle.graph.specs.Net.{no_link, Joined, Sized}
use Rattle.chains.specs.declared.message.Message.{Message}
use Rattle.chains.specs.Chains.{Ordered}
use Rattle.chains.proofs.Lists.{in_getD, in_index}
use Rattle.partition.specs.Blocks.{messages}
use Rattle.partition.specs.Times.{Handled}
use Rattle.partition.specs.Views.{Least, Listed, Numbered}
use Rattle.partition.specs.Named.{messages_of}
use Rattle.partition.specs.declared.partition.Partition.{Partition}
use Rattle.partition.proofs.Renamed.{Ends, of_messages, messages_few}

pub ends : (n : ℕ) (links : List Link) → Joined n links → Ends n links
ends n links j l i =
    let k = in_index l links no_link i in
    let P : Link → Type 0 = λ (x : Link). (1 ≤ x.sender) × (x.sender ≤ n) × (1 ≤ x.receiver) × (x.receiver ≤ n) in
    subst P k.2 (j k.0 k.1)

pub handled : (n : ℕ) (links : List Link) (blocks : List ℕ) → n ≤ 256 → Joined n links → Sized links → Least n blocks → Handled (messages links blocks)
handled n links blocks few j z least x i =
    let c = of_messages links blocks x i in
    let e = ends n links j c.link c.known in
    let k = in_index c.link links no_link c.known in
    let P : Link → Type 0 = λ (y : Link). y.size ≤ 1000000 in
    let s = subst P k.2 (z k.0 k.1) in
    let a = (least c.link.sender e.0 e.1).1 in
    let b = (least c.link.receiver e.2 e.3).1 in
    (omega (arith, c.leaves, a, e.1, few), omega (arith, c.comes, b, e.3, few), omega (arith, c.size, s))

-- what the messages of a partition are known by, under any name of theirs
pub record Fair (ms : List Message) : Type 0 where
  pub few : length ms ≤ 1024
  pub handled : Handled ms

pub fair : (p : Partition) → Fair (messages p.links.now p.blocks.now)
fair p = record {
  few = omega (arith, messages_few p.links.now p.blocks.now, p.few);
  handled = handled _ p.links.now p.blocks.now p.small p.joined p.sized p.least;
}

-- the order of a partition, by the number of its blocks
pub listed : (p : Partition) → Listed (length p.blocks.now) p.blocks.now p.order.now
listed p = subst (λ n. Listed n p.blocks.now p.order.now) (sym p.all) p.listed

pub numbered : (p : Partition) → Numbered (length p.blocks.now) p.blocks.now p.order.now
numbered p = subst (λ n. Numbered n p.blocks.now p.order.now) (sym p.all) p.numbered

-- it is a processing order for its messages
pub ordered : (p : Partition) → Ordered (messages p.links.now p.blocks.now) p.order.now
ordered p = record {
  few = (fair p).few;
  short = p.short;
  blocks = λ b i. let r = p.numbered b i in (r.0, omega (arith, r.1, p.small));
  once = p.once;
  forward = p.forward;
}

-- its messages, under another name
pub fair_as : (p : Partition) (ms : List Message) → ms ≡ messages_of p → Fair ms
fair_as p ms e = subst (λ (xs : List Message). Fair xs) (sym e) (fair p)

-- each of them goes between blocks of tasks, and a machine answers for its size
pub message_good : (p : Partition) (ms : List Message) → ms ≡ messages_of p → (i : ℕ) → i < length ms
    → ((slice_index_or ms i (record { from = 0; to = 0; size = 0 })).from ≤ 256) × ((slice_index_or ms i (record { from = 0; to = 0; size = 0 })).to ≤ 256)
    × ((slice_index_or ms i (record { from = 0; to = 0; size = 0 })).size ≤ 1000000)
message_good p ms e i lt = (fair_as p ms e).handled _ (in_getD ms i (record { from = 0; to = 0; size = 0 }) lt)
