use Rattle.std.proofs.Common.{◌≡◌, ℕ, ◌+◌, ◌<◌, true, List, length, get_or, sym, ap, ◌∙◌, subst, arith}
use Rattle.lines.specs.declared.line.Line.TheVariants.{Idle}
use Rattle.lines.specs.declared.line.Line.{Line}
use Rattle.lines.specs.declared.ring.Ring.{Ring}
use Rattle.view.specs.Adds.{is_write}
use Rattle.view.specs.Room.{own_of, queue_of}
use Rattle.view.specs.Upkeep.{SuccOk}
use Rattle.view.specs.Writes.{with_lines}
use Rattle.view.proofs.Filed.{Filing, length_own, filing_other, filing_write, filing_fits, filing_all, filing_count, lines_filed, succs_filed}
use Rattle.view.proofs.commit.take_in.Goals as goal
use Rattle.view.proofs.commit.take_in.Goals.{then-is_write, else-is_write}

carry : (w : List ℕ) (v : _) (i : ℕ) (a b : List ℕ) (r s : Ring) → a ≡ b → r ≡ s → Filing w v i b s → Filing w v i a r
carry w v i a b r s e f h = subst (λ (x : List ℕ). Filing w v i x r) (sym e) (subst (λ (y : Ring). Filing w v i b y) (sym f) h)

pub add_record-queue-requires : goal.add_record-queue-requires
add_record-queue-requires c =
    let w = c.args.room.now in
    let v = c.args.view in
    let n = length_own w v in
    let low : c.loop-i.i < length (own_of w v) = omega arith in
    let is = c.at-line.ensures ∙ ap (λ x. get_or x c.loop-i.i Idle) c.lines_of.ensures in
    let e : is_write c.at-line.result ≡ true = sym c.if-is_write.ensures in
    (c.loop-i.invariant.queue, filing_fits w v c.loop-i.i c.loop-i.room c.loop-i.queue c.requires.stands.own.deal low c.loop-i.invariant c.at-line.result is e c.requires.fits)

pub loop-i-preserved : goal.loop-i-preserved
loop-i-preserved c =
    let w = c.args.room.now in
    let v = c.args.view in
    let i = c.loop-i.i in
    let l = c.at-line.result in
    let n = length_own w v in
    let low : i < length (own_of w v) = omega arith in
    let is = c.at-line.ensures ∙ ap (λ x. get_or x i Idle) c.lines_of.ensures in
    elim c.if-is_write.branch [
      | then-is_write x ↦
          carry w v (i + 1) c.if-is_write.room x.add_record-queue.new.room c.if-is_write.queue x.add_record-queue.result x.room-is x.queue-is
          (filing_write w v i c.loop-i.room c.loop-i.queue c.requires.stands.own.deal low c.loop-i.invariant l is (sym x.if-is_write.ensures)
          x.add_record-queue.new.room x.add_record-queue.result x.add_record-queue.ensures.lines x.add_record-queue.ensures.queue.0 x.add_record-queue.ensures.queue.1.0 x.add_record-queue.ensures.only)
      | else-is_write x ↦
          carry w v (i + 1) c.if-is_write.room c.loop-i.room c.if-is_write.queue c.loop-i.queue x.room-is x.queue-is
          (filing_other w v i c.loop-i.room c.loop-i.queue c.requires.stands.own.deal low c.loop-i.invariant l is (sym x.if-is_write.ensures))
    ]

pub returns : goal.returns
returns c =
    let w = c.args.room.now in
    let v = c.args.view in
    let q = queue_of w v in
    let o = own_of w v in
    let f = c.loop-i.invariant in
    let e = filing_all w v c.loop-i.i c.loop-i.room c.loop-i.queue (omega arith) f in
    record {
      lines = e;
      queue = (f.queue, (f.start, filing_count w v c.loop-i.i c.loop-i.room c.loop-i.queue (omega arith) f));
      only = f.only;
      pairs = λ t. ap (λ (x : List Line). with_lines t x) e ∙ lines_filed t q o;
      succs = λ t h g. subst (SuccOk t) (sym e) (succs_filed t q o h g);
    }

pub at-line-requires : goal.at-line-requires
at-line-requires c = let n : length c.lines_of.result ≡ c.args.view.count = ap length c.lines_of.ensures ∙ length_own c.loop-i.room c.args.view in omega arith
