use Rattle.deals.proofs.Pairing.{put_is, drop_is, find_is, next_is, onto_is}
use Rattle.deals.proofs.paired.book_is_pairs.Goals as goal

pub returns : goal.returns
returns c = record { put = put_is; drop = drop_is; find = find_is; next = next_is; onto = onto_is }
