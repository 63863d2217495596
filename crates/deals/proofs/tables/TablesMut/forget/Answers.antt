use Rattle.std.proofs.Common.{◌<◌, refl, arith}
use Rattle.deals.proofs.Desks.{forgot_deals, forgot_lines, forgot_others}
use Rattle.deals.proofs.tables.TablesMut.forget.Goals as goal

pub returns : goal.returns
returns c =
    let few : c.args.c < 32 = omega arith in
    rw c.index.ensures.is
    (record {
      lent = refl;
      deals = forgot_deals c.args.self.now.room.now c.args.c c.args.self.now.sound few;
      lines = forgot_lines c.args.self.now.room.now c.args.c c.args.self.now.sound few;
      others = forgot_others c.args.self.now.room.now c.args.c c.args.self.now.sound few;
    })
