use Rattle.std.proofs.Common.{◌≡◌, true, false, sym, subst, rules, of_calls}
use Rattle.std.specs.Prelude.{nat_le}
use Rattle.std.specs.List.Sorted.{IsPartitionPoint}
use Rattle.std.proofs.lemmas.Fn.{always_returns_same}
use Rattle.std.proofs.lemmas.List.Sorted.{IsPartitionedBy-leb}
use Rattle.adversary_net.specs.declared.sent_index.SendingEntry.{SendingEntry}
use Rattle.adversary_net.proofs.SentPlaces.{Rises, parts_of}
use Rattle.adversary_net.proofs.sent_index.SentIndex.up_to.Goals as goal

pub returns-clause-parts : goal.returns-clause-parts
returns-clause-parts c =
    let same : c.as_slice.result.now ≡ c.args.self.now.sending.items = c.as_slice.ensures.value in
    let rises : Rises c.as_slice.result.now = subst Rises (sym same) c.requires.rising in
    let point : IsPartitionPoint (λ (s : SendingEntry). nat_le s.before c.args.index ≡ true)
    (λ (s : SendingEntry). nat_le s.before c.args.index ≡ false) c.as_slice.result.now c.partition_point.result =
    c.partition_point.ensures.partitioned (λ s. nat_le s.before c.args.index)
    (always_returns_same _ _ _ (λ a r f k. search (rules, of_calls)))
    (IsPartitionedBy-leb (λ (s : SendingEntry). s.before) c.as_slice.result.now c.args.index rises) in
    parts_of c.args.self.now.sending.items c.as_slice.result.now c.args.index c.partition_point.result same point
