use Rattle.cmh_run.proofs.tape.Tape+u32.of.Given as goal

-- the processes of the list
abbrev pub ghost-picked : goal.ghost-picked
ghost-picked a = a._by.now.now
