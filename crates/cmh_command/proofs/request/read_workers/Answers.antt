use Rattle.std.proofs.Common.{rules, arith}
use Rattle.clap.specs.Words.{found_of}
use Rattle.cmh_command.proofs.Requests.{has_large, has_none}
use Rattle.cmh_command.proofs.request.read_workers.Goals as goal

pub returns-in_default-read_number : goal.returns-in_default-read_number
returns-in_default-read_number c =
    has_large (found_of c.args.options.now) c.get_str.result c.in-Some.text c.read_number.result c.in-Some-read_number.n
    c.get_str.ensures (search rules) c.read_number.ensures (search rules) (omega arith)

pub returns-in_default-read_number-2 : goal.returns-in_default-read_number-2
returns-in_default-read_number-2 c =
    has_none (found_of c.args.options.now) c.get_str.result c.in-Some.text c.read_number.result
    c.get_str.ensures (search rules) c.read_number.ensures (search rules)
