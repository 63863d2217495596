use Rattle.std.proofs.Common.{◌≡◌, List, ◌∷◌, get_or, drop, refl, ap, ◌∙◌, rules}
use Rattle.std.specs.Borrow.{GName}
use Rattle.std.specs.Result.{is_ok}
use Rattle.lines.specs.Tables.{behind}
use Rattle.pager.proofs.Calls.{as_lent}
use Rattle.treeindex.specs.Behind.{Onto}
use Rattle.ledger.specs.Ledger.{part_of}
use Rattle.ledger.proofs.Fronts.{at_rest, rising_in}
use Rattle.ledger.proofs.Looking.{finds_of}
use Rattle.ledger.proofs.looks.look_in.Goals as goal

pub look-requires-clause-up : goal.look-requires-clause-up
look-requires-clause-up g c = rising_in _ (part_of c.args.room.now) c.args.store.now c.requires.paged

pub look-requires-clause-whole : goal.look-requires-clause-whole
look-requires-clause-whole g c = ((record { device = c.args.d; store = c.args.store }), behind c.args.room.now, at_rest _ (behind c.args.room.now) _ c.requires.paged)

pub returns : goal.returns
returns g c =
    let n = c.look.new.index in
    let k = c.look.ensures in
    let t : n.device.ghost_name ∷ n.store.ghost_name ∷ g.D.Device.tie n.device.now ≡ _ ∷ _ ∷ g.D.Device.tie c.args.d.now = k.passed.tied in
    let a = ap (λ (x : List GName). get_or x 0 n.device.ghost_name) t in
    let b = ap (λ (x : List GName). get_or x 1 n.store.ghost_name) t in
    let d : _ ≡ n.device.now = search rules in
    let w : _ ≡ n.store.now = search rules in
    record {
      told = k.told;
      finds = finds_of c.look.result 6 (g.D.Device.medium c.args.d.now) c.args.room.now c.args.store.now (g.D.Device.medium n.device.now) _ c.look.new.room n.store.now _ (ap g.D.Device.medium d) w k.asked (λ x. (x.same, x.spent));
      tables = k.tables;
      onto = as_lent (λ f r y. Onto (g.D.Device.medium c.args.d.now) (behind c.args.room.now) c.args.store.now (is_ok c.look.result) f r y) _ _ _ _ _ _ (ap g.D.Device.medium d) refl w
          (k.passed.onto (record { device = c.args.d; store = c.args.store }) (behind c.args.room.now) (at_rest _ (behind c.args.room.now) _ c.requires.paged));
      tied = ap g.D.Device.tie d ∙ ap (λ (x : List GName). drop 2 x) t;
    }
