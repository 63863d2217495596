use Rattle.std.specs.Result.{is_ok}
use Rattle.ledger.specs.Ledger.{part_of}
use Rattle.ledger.proofs.Parting.{lent, lent_same}
use Rattle.ledger.proofs.Standing.{image_stays, image_tree, shot_imaged, shot_left}
use Rattle.ledger.proofs.Ledger.image.Goals as goal

pub image-requires-clause-long : goal.image-requires-clause-long
image-requires-clause-long g c = c.requires.stands.2.intact.long

pub image-requires-clause-intact : goal.image-requires-clause-intact
image-requires-clause-intact g c = c.requires.stands.2.intact

pub returns-clause-book : goal.returns-clause-book
returns-clause-book g c = λ p b s.
    image_stays p _ c.args.room.now c.args.self.now b s _ _ _ c.image.new.store (lent c.args.room.now c.image.new.words s.ring.room c.image.auto.words) (is_ok c.image.result) c.requires.begun c.image.ensures.words c.image.ensures.shoots

pub returns-clause-imaged : goal.returns-clause-imaged
returns-clause-imaged g c = shot_imaged (g.D.Device.medium c.args.d.now) (part_of c.args.room.now) c.args.self.now.store (g.D.Device.medium c.image.new.d) c.image.new.store c.image.result c.image.ensures.shoots

pub returns-clause-asked : goal.returns-clause-asked
returns-clause-asked g c = shot_left (g.D.Device.medium c.args.d.now) (part_of c.args.room.now) c.args.self.now.store (g.D.Device.medium c.image.new.d) c.image.new.store c.image.result c.image.ensures.shoots

pub returns-clause-room : goal.returns-clause-room
returns-clause-room g c = lent_same c.args.room.now c.image.new.words c.image.ensures.words

pub returns-clause-tree : goal.returns-clause-tree
returns-clause-tree g c = let s = c.requires.stands.2 in
    image_tree _ _ c.args.room.now c.args.self.now _ s _ _ _ c.image.new.store (lent c.args.room.now c.image.new.words s.ring.room c.image.auto.words) c.image.result c.requires.begun c.image.ensures.words c.image.ensures.shoots
