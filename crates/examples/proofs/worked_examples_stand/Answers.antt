use Rattle.std.proofs.Common.{refl}
use Rattle.examples.specs.Listing.{listing_workload, at_first, listing_events}
use Rattle.examples.proofs.Course.{emptied, listing_reached}
use Rattle.examples.proofs.Facts.{lawful, formed}
use Rattle.examples.proofs.Files.{file_answers_lem}
use Rattle.examples.proofs.Once.{answered_once}
use Rattle.examples.proofs.Order.{listing_explained, listing_order}
use Rattle.examples.proofs.Sets.{unlockable_sets_lem}
use Rattle.examples.proofs.Turns.{tallies}
use Rattle.examples.proofs.worked_examples_stand.Goals as goal

pub returns : goal.returns
returns c =
    record {
      takes_off = record { too_little = λ register. refl; enough = λ register. refl };
      file = file_answers_lem;
      sets = unlockable_sets_lem;
      listing = record {
        lawful = lawful;
        table = emptied;
        reached = listing_reached;
        shows = refl;
        only = λ es m r e.
            answered_once listing_workload formed tallies at_first es listing_events m emptied r listing_reached e;
        explained = listing_explained;
        one_order = listing_order;
      };
    }
