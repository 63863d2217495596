use Rattle.std.proofs.Common.{leb, rules}
use Rattle.std.proofs.lemmas.List.Sorted.{IsPartitionPoint-from_clause}
use Rattle.node.proofs.Spots.{parts, parts_at}
use Rattle.node.proofs.Node.upper.Goals as goal

pub returns : goal.returns
returns c =
    let es = c.args.self.now.pairs in let k = c.args.k in let ks = c.keys.result.now in let i = c.partition_point.result in
    parts_at es k c.requires ks c.keys.ensures i c.partition_point.ensures.bound
    (IsPartitionPoint-from_clause (λ y. leb y k) ks i c.partition_point.ensures.partitioned (parts es k c.requires ks c.keys.ensures) (λ a r f' h. search rules))
