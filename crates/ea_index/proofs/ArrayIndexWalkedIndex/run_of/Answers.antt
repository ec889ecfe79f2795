-- `run_of` of `ea_index::ArrayIndex` meets its trait's contract. Assumes nothing.
use mathlib.Core.Path.{sym, subst}
use Rattle.ea_blocks.specs.Array.{Array}
use Rattle.ea_index.specs.Values.{PathTested, RunIn}
use Rattle.ea_index.proofs.Walked.{walked_index, walked_tested}
use Rattle.ea_index.proofs.ArrayIndexWalkedIndex.run_of.Goals as goal

pub in_file-requires : goal.in_file-requires
in_file-requires c = walked_index _ _ _ _ c.requires

pub run_of-requires : goal.run_of-requires
run_of-requires c =
    subst (λ (a : Array). PathTested a c.args.slot) (sym c.in_file.ensures) (walked_tested _ _ _ _ c.requires)

pub returns : goal.returns
returns c = subst (λ (a : Array). RunIn a c.args.slot c.run_of.result) c.in_file.ensures c.run_of.ensures.0
