-- `read_at` of `ea_header::ExtensibleArrayHeader` meets its trait's contract. Assumes nothing.
use Rattle.fields.proofs.Widths.{width_le}
use Rattle.ea_header.specs.Header.{statistic, header_at}
use borrow.Author.Rules.{rules}
use Rattle.ea_header.proofs.ExtensibleArrayHeaderIndexHeader.read_at.Goals as goal

pub read_le-count-requires : goal.read_le-count-requires
read_le-count-requires c = (search rules, width_le c.args.length_size c.requires.2)

pub returns : goal.returns
unfolding header_at statistic
returns c =
    rw (c.read_parameters.ensures, c.read_address-index.ensures, c.read_le-count.ensures.0)
