use Rattle.std.proofs.Common.{[], ◌++◌, length, take, sym, ap, ◌∙◌, subst, arith, length-append}
use Rattle.std.proofs.lemmas.Result.{err_from_is_err_and}
use Rattle.lines.proofs.Parts.{same_deals}
use Rattle.lines.specs.Tables.{deal_lines, queue_lines}
use Rattle.store.specs.declared.Store.{Store}
use Rattle.store.specs.State.{queue_by}
use Rattle.store.specs.Store.{next}
use Rattle.view.specs.Adds.{writing}
use Rattle.view.specs.Upkeep.{SuccOk}
use Rattle.view.specs.Writes.{with_lines}
use Rattle.view.proofs.Tabled.{queue_in_on}
use Rattle.ledger.specs.Ledger.{part_of, now_pairs}
use Rattle.ledger.specs.Commits.{records_by}
use Rattle.ledger.proofs.Counting.{length_records}
use Rattle.ledger.proofs.Means.{cut_first}
use Rattle.ledger.proofs.Ahead.{lost_cut}
use Rattle.ledger.proofs.Parting.{only_aside, only_queue}
use Rattle.ledger.proofs.Appending.{only_on}
use Rattle.ledger.proofs.Standing.{ahead_of}
use Rattle.ledger.proofs.Settling.{durable, same_asks, commit_cut, commit_stands, commit_joined, filed_aside}
use Rattle.ledger.proofs.Ledger.commit_writes.Goals as goal

pub append_all-requires : goal.append_all-requires
append_all-requires g c =
    let s = c.requires.stands.2 in
    let own = deal_lines c.args.room.now c.args.deal c.args.count in
    record {
      deal = c.requires.deal;
      intact = s.intact;
      room = omega (arith, c.requires.allows.records, durable _ _ c.args.room.now c.args.self.now _ s, length_records own, ap length s.sealed);
      asks = omega (arith, c.requires.asks);
    }

pub returns-in_err-append_all : goal.returns-in_err-append_all
returns-in_err-append_all g c =
    let n = err_from_is_err_and c.from_residual.result c.from_residual.ensures.1 in
    let own = deal_lines c.args.room.now c.args.deal c.args.count in
    let l = c.args.self.now in
    record {
      book = λ p b s. rw n.1 (cut_first p b (with_lines b own) _ (lost_cut p _ (part_of c.args.room.now) l.store b [] (ahead_of p _ c.args.room.now l b s) _ c.in_err-append_all.ensures.appends));
      joined = rw n.1 tt;
      asked = rw n.1 tt;
      aside = only_aside c.args.room.now c.append_all.new.room c.append_all.ensures.only;
      tied = c.append_all.ensures.tied;
    }

pub settle-requires : goal.settle-requires
settle-requires g c =
    let s = c.requires.stands.2 in
    let a = c.in_ok-append_all.ensures.appends in
    record {
      size = c.append_all.ensures.only.long ∙ c.requires.deal.room;
      intact = a.intact;
      worked = omega (arith, s.done, ap length a.queue, ap length s.sealed, ap (λ (x : Store). x.worked) a.store, length-append (queue_by (next (part_of c.args.room.now)) (g.D.Device.medium c.args.d.now).shown) (records_by (deal_lines c.args.room.now c.args.deal c.args.count)));
      asks = omega (arith, c.requires.asks, c.in_ok-append_all.ensures.asked, same_asks _ (part_of c.args.room.now) c.args.self.now.store _ _ (part_of c.append_all.new.room) c.append_all.new.store a);
    }

pub returns-in_err-lasted : goal.returns-in_err-lasted
returns-in_err-lasted g c =
    let n = err_from_is_err_and c.from_residual-in_err-lasted.result c.from_residual-in_err-lasted.ensures.1 in
    let own = deal_lines c.args.room.now c.args.deal c.args.count in
    record {
      book = λ p b s. rw n.1 (commit_cut p _ c.args.room.now c.args.self.now b s own c.requires.allows _ c.append_all.new.room c.append_all.new.store c.in_ok-append_all.ensures.appends _ (part_of c.settle.new.room) c.settle.new.store c.in_err-lasted.ensures.settles);
      joined = rw n.1 tt;
      asked = rw n.1 tt;
      aside = only_aside c.args.room.now c.settle.new.room (only_on c.args.room.now c.append_all.new.room c.settle.new.room c.append_all.ensures.only c.settle.ensures.only);
      tied = c.settle.ensures.tied ∙ c.append_all.ensures.tied;
    }

pub take_in-self-requires : goal.take_in-self-requires
take_in-self-requires g c =
    let room = c.args.room.now in
    let v = c.settle.new.room in
    let o = only_on room c.append_all.new.room v c.append_all.ensures.only c.settle.ensures.only in
    let same = same_deals room v o.long o.tables c.args.deal c.args.count c.requires.deal.deal in
    record {
      stands = record {
        own = record { room = o.long ∙ c.requires.deal.room; deal = c.requires.deal.deal; count = c.requires.deal.count };
        queue = queue_in_on room v c.args.self.now.queue o.long c.requires.stands.2.ring;
      };
      fits = omega (arith, c.requires.allows.records, ap (λ x. length (writing x)) same);
    }

pub returns : goal.returns
returns g c =
    let room = c.args.room.now in let l = c.args.self.now in
    let own = deal_lines c.args.room.now c.args.deal c.args.count in
    let v = c.settle.new.room in
    let o = only_on room c.append_all.new.room v c.append_all.ensures.only c.settle.ensures.only in
    let k = c.take_in-self.ensures in
    let a = c.in_ok-append_all.ensures in
    let y = c.in_ok-lasted.ensures in
    let mine = same_deals room v o.long o.tables c.args.deal c.args.count c.requires.deal.deal in
    let queue = only_queue room v o l.queue in
    let part = ap (take 62976) k.only.behind in
    let lines = k.lines ∙ ap (λ x. x ++ writing (deal_lines v c.args.deal c.args.count)) queue ∙ ap (λ x. queue_lines room l.queue ++ writing x) mine in
    let ok = k.succs (now_pairs (g.D.Device.medium c.args.d.now) room l) (subst (SuccOk (now_pairs (g.D.Device.medium c.args.d.now) room l)) (sym queue) c.requires.stands.2.succs) (subst (SuccOk (now_pairs (g.D.Device.medium c.args.d.now) room l)) (sym mine) c.requires.succs) in
    record {
      book = λ p b s. commit_stands p _ room l b s own c.requires.allows _ c.append_all.new.room c.append_all.new.store a.appends _ (part_of c.settle.new.room) c.settle.new.store y.settles c.take_in-self.new.room c.take_in-self.result
          part k.queue.0 lines ok;
      joined = commit_joined _ _ room l _ c.requires.stands.2 own c.requires.allows _ c.append_all.new.room c.append_all.new.store a.appends _ (part_of c.settle.new.room) c.settle.new.store y.settles c.take_in-self.new.room c.take_in-self.result part lines;
      asked = omega (arith, a.asked, y.asked, same_asks _ (part_of room) l.store _ _ (part_of c.append_all.new.room) c.append_all.new.store a.appends);
      aside = filed_aside room c.append_all.new.room v c.take_in-self.new.room c.append_all.ensures.only c.settle.ensures.only k.only (k.queue.0.room ∙ sym c.requires.deal.room);
      tied = c.settle.ensures.tied ∙ c.append_all.ensures.tied;
    }
