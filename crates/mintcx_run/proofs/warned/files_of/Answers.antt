use Rattle.mintcx_run.proofs.warned.files_of.Goals as goal

pub returns : goal.returns
returns c = record {
  four = c.in_ok-form.ensures.four;
  netlist = rw c.items-names.ensures at c.file_of.ensures;
  delays = rw c.items-names.ensures at c.file_of-2.ensures;
  cells = rw c.items-names.ensures at c.file_of-3.ensures;
  clock = rw c.items-names.ensures at c.file_of-4.ensures;
}
