use Rattle.cmh_tests.proofs.rw.surface.+read_together.Given as goal

abbrev pub decreases-read_together : goal.decreases-read_together
decreases-read_together g l = l.others
