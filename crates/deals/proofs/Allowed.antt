-- How often the disk may still be asked doesn't matter to what stands on it.
use Rattle.std.proofs.Common.{ℕ, Bool, true, List}
use Rattle.store.specs.declared.Store.{Store}
use Rattle.store.specs.State.{Rested}
use Rattle.store.specs.Store.{Intact}
use Rattle.ledger.specs.declared.Ledger.{Ledger}
use Rattle.ledger.specs.Ledger.{Pairs, Lasts, Rests, Stands}
use Rattle.deals.specs.declared.engine.Office.{Office}
use Rattle.deals.specs.Disk.{Disk, allowed}
use Rattle.deals.specs.Drives.{medium_of}
use Rattle.deals.specs.Deals.{Book, State}
use Rattle.deals.specs.Sits.{Lasting, Seated, Sits}

lasts_allowed : (k p : ℕ) (d : Disk) → Lasts p (medium_of d) → Lasts p (medium_of (allowed k d))
lasts_allowed k p d i = record { pages = i.pages; big = i.big; small = i.small; ground = i.ground; few = i.few; fits = i.fits }

rested_allowed : (k : ℕ) (d : Disk) → Rested (medium_of d) → Rested (medium_of (allowed k d))
rested_allowed k d i = record { big = i.big; head = i.head; all = i.all }

rests_allowed : (k p : ℕ) (d : Disk) (t : Pairs) → Rests p (medium_of d) t → Rests p (medium_of (allowed k d)) t
rests_allowed k p d t i = record { rested = rested_allowed k d i.rested; lasts = lasts_allowed k p d i.lasts; book = i.book }

intact_allowed : (k : ℕ) (d : Disk) (part : List ℕ) (z : Store) → Intact (medium_of d) part z → Intact (medium_of (allowed k d)) part z
intact_allowed k d part z i =
    record {
      long = i.long;
      ready = record {
        kept = record {
          safe = record { big = i.ready.kept.safe.big; head = i.ready.kept.safe.head; first = i.ready.kept.safe.first; firm = i.ready.kept.safe.firm };
          put = i.ready.kept.put;
        };
        follows = i.ready.follows;
        last = i.ready.last;
      };
      table = i.table;
      clean = i.clean;
      plain = i.plain;
      pins = i.pins;
      images = λ t. let g = i.images t in record { few = g.few; there = g.there; last = g.last; plain = g.plain };
    }

stands_allowed : (k p : ℕ) (d : Disk) (room : List ℕ) (l : Ledger) (t : Pairs) → Stands p (medium_of d) room l t → Stands p (medium_of (allowed k d)) room l t
stands_allowed k p d room l t i =
    record {
      lasts = lasts_allowed k p d i.lasts;
      book = i.book;
      intact = intact_allowed k d _ l.store i.intact;
      sealed = i.sealed;
      ground = i.ground;
      done = i.done;
      tree = i.tree;
      ring = i.ring;
      queue = i.queue;
      succs = i.succs;
      begun = i.begun;
    }

pub lasting_allowed : (k p : ℕ) (d : Disk) (b : Book) → Lasting p d b → Lasting p (allowed k d) b
lasting_allowed k p d b i = record { pairs = i.pairs; rests = rests_allowed k p d i.pairs i.rests; book = i.book }

seated_allowed : (k : ℕ) (more : Bool) (p : ℕ) (f : Office) (room : List ℕ) (d : Disk) (s : State) → Seated more p f room d s → Seated more p f room (allowed k d) s
seated_allowed k more p f room d s i =
    record {
      tables = i.tables;
      apart = i.apart;
      pairs = i.pairs;
      stands = stands_allowed k p d room f.ledger i.pairs i.stands;
      book = i.book;
      succs = i.succs;
      records = i.records;
      room_left = i.room_left;
      writes = i.writes;
      puts = i.puts;
    }

pub sits_allowed : (k p : ℕ) (f : Office) (room : List ℕ) (d : Disk) (s : State) → Sits p f room d s → Sits p f room (allowed k d) s
sits_allowed k p f room d s i = record { seated = seated_allowed k true p f room d s i.seated; told = i.told }
