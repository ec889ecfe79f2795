-- `run_of` of `fa_index::FixedIndex` meets its trait's contract. Assumes nothing.
use Rattle.fa_index.proofs.Walked.{walked_served}
use Rattle.fa_index.proofs.FixedIndexWalkedIndex.run_of.Goals as goal

pub invariant_of-layout : goal.invariant_of-layout
invariant_of-layout c = record { served = walked_served _ _ _ c.requires }
