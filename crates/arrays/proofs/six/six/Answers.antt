use Rattle.encodings.proofs.Flat.{flat_rows_are}
use Rattle.encodings.proofs.Constant.{constant_rows_are}
use Rattle.encodings.proofs.RunEnd.{run_end_rows_are}
use Rattle.encodings.proofs.Dict.{dict_rows_are}
use Rattle.encodings.proofs.Chunked.{chunked_rows_are, chunked_rest_is}
use Rattle.encodings.proofs.Slice.{slice_rows_are}
use Rattle.encodings.proofs.Steps.{stays, constant_flattens, run_end_flattens, dict_flattens, slice_flattens, chunks}
use Rattle.arrays.proofs.six.six.Goals as goal

pub returns-clause-flat : goal.returns-clause-flat
returns-clause-flat c = (flat_rows_are, stays)

pub returns-clause-constant : goal.returns-clause-constant
returns-clause-constant c = (constant_rows_are, constant_flattens)

pub returns-clause-run_end : goal.returns-clause-run_end
returns-clause-run_end c = (run_end_rows_are, run_end_flattens)

pub returns-clause-dict : goal.returns-clause-dict
returns-clause-dict c = (dict_rows_are, dict_flattens)

pub returns-clause-chunked : goal.returns-clause-chunked
returns-clause-chunked c = (chunked_rows_are, (chunked_rest_is, chunks))

pub returns-clause-slice : goal.returns-clause-slice
returns-clause-slice c = (slice_rows_are, slice_flattens)
