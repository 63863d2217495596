use Rattle.std.proofs.Common.{◌≡◌, ◌<◌, length, get_or, ap, refl, ◌∙◌, arith}
use Rattle.std.proofs.lemmas.Result.{err_from_is_err_and}
use Rattle.lines.specs.declared.line.Line.TheVariants.{Idle}
use Rattle.lines.specs.Tables.{deal_lines}
use Rattle.lines.proofs.Parts.{same_deals}
use Rattle.store.proofs.Grows.{lost_after}
use Rattle.ledger.proofs.Appending.{length_deal, only_on, adding_none, adding_room, adding_asks, adding_more, adding_all, adding_asked}
use Rattle.ledger.proofs.commit.append_all.Goals as goal

pub loop-i-init : goal.loop-i-init
loop-i-init g c = record { adding = adding_none _ _ _ _ c.requires.intact; tied = refl }

pub lines_of-requires : goal.lines_of-requires
lines_of-requires g c = record { room = c.loop-i.invariant.adding.only.long ∙ c.requires.deal.room; deal = c.requires.deal.deal; count = c.requires.deal.count }

pub at-line-requires : goal.at-line-requires
at-line-requires g c = let n : length c.lines_of.result ≡ c.args.count = ap length c.lines_of.ensures ∙ length_deal c.loop-i.room c.args.deal c.args.count in omega arith

pub append_line-requires : goal.append_line-requires
append_line-requires g c =
    let a = c.loop-i.invariant.adding in
    let own = deal_lines c.args.room.now c.args.deal c.args.count in
    let n = length_deal c.args.room.now c.args.deal c.args.count in
    let low : c.loop-i.i < length own = omega arith in
    let is = c.at-line.ensures ∙ ap (λ x. get_or x c.loop-i.i Idle) (c.lines_of.ensures ∙ same_deals c.args.room.now c.loop-i.room a.only.long a.only.tables c.args.deal c.args.count c.requires.deal.deal) in
    record {
      size = a.only.long ∙ c.requires.deal.room;
      intact = a.rows.intact;
      room = adding_room own c.loop-i.i low c.at-line.result is _ c.args.room.now c.args.store.now c.requires.intact _ c.loop-i.room c.loop-i.store a c.requires.room;
      asks = adding_asks own c.loop-i.i low c.at-line.result is _ c.args.room.now c.args.store.now c.requires.intact _ c.loop-i.room c.loop-i.store a c.requires.asks (omega (arith, c.requires.deal.count));
    }

pub returns-in_err-append_line : goal.returns-in_err-append_line
returns-in_err-append_line g c =
    let a = c.loop-i.invariant.adding in
    let p = err_from_is_err_and c.from_residual.result c.from_residual.ensures.1 in
    record {
      appends = rw p.1 (lost_after a.rows.held c.in_err-append_line.ensures.appends);
      asked = rw p.1 tt;
      only = only_on c.args.room.now c.loop-i.room _ a.only c.append_line.ensures.only;
      tied = c.append_line.ensures.tied ∙ c.loop-i.invariant.tied;
    }

pub loop-i-preserved : goal.loop-i-preserved
loop-i-preserved g c =
    let a = c.loop-i.invariant.adding in
    let own = deal_lines c.args.room.now c.args.deal c.args.count in
    let n = length_deal c.args.room.now c.args.deal c.args.count in
    let low : c.loop-i.i < length own = omega arith in
    let is = c.at-line.ensures ∙ ap (λ x. get_or x c.loop-i.i Idle) (c.lines_of.ensures ∙ same_deals c.args.room.now c.loop-i.room a.only.long a.only.tables c.args.deal c.args.count c.requires.deal.deal) in
    record {
      adding = adding_more own c.loop-i.i low c.at-line.result is _ c.args.room.now c.args.store.now c.requires.intact _ c.loop-i.room c.loop-i.store a _ c.append_line.new.room c.append_line.new.store c.in_ok-append_line.ensures.appends c.append_line.ensures.only;
      tied = c.append_line.ensures.tied ∙ c.loop-i.invariant.tied;
    }

pub returns : goal.returns
returns g c =
    let a = c.loop-i.invariant.adding in
    let own = deal_lines c.args.room.now c.args.deal c.args.count in
    let n = length_deal c.args.room.now c.args.deal c.args.count in
    record {
      appends = adding_all own c.loop-i.i _ c.args.room.now c.args.store.now c.requires.intact _ c.loop-i.room c.loop-i.store a (omega arith);
      asked = adding_asked own c.loop-i.i _ c.args.room.now c.args.store.now c.requires.intact _ c.loop-i.room c.loop-i.store a (omega (arith, c.requires.deal.count));
      only = a.only;
      tied = c.loop-i.invariant.tied;
    }
