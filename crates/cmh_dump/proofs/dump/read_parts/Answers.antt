use Rattle.std.proofs.Common.{◌++◌, map, sym, ap, ◌∙◌}
use Rattle.std.specs.Prelude.{option_map}
use Rattle.std.specs.List.{list_all}
use Rattle.std.proofs.lemmas.Result.{err_from_is_err_and}
use Rattle.serde_json.specs.View.{view}
use Rattle.cmh_dump.specs.Dump.{top_faults, site_faults, process_faults}
use Rattle.cmh_dump.specs.Name.{is_name}
use Rattle.cmh_dump.specs.Read.{entry_view, first_ill_named}
use Rattle.cmh_dump.specs.declared.fault.DumpFault.TheVariants.{BadProcess}
use Rattle.cmh_dump.proofs.FirstFault.Stages.{faults_from_names, faults_from_processes, refused_here, refused_later, refused_past_sites, built_later}
use Rattle.cmh_dump.proofs.dump.read_parts.Goals as goal

pub returns-in_err-judge_top : goal.returns-in_err-judge_top
returns-in_err-judge_top c =
    let d = view c.args.tree.now in
    let later = site_faults d ++ faults_from_processes d in
    let p = err_from_is_err_and c.from_residual.result c.from_residual.ensures.1 in
    rw (p.1, p.2) (refused_here d top_faults later _ c.in_err-judge_top.ensures)

pub returns-in_err-sites : goal.returns-in_err-sites
returns-in_err-sites c =
    let d = view c.args.tree.now in
    let later = faults_from_processes d in
    let p = err_from_is_err_and c.from_residual-in_err-sites.result c.from_residual-in_err-sites.ensures.1 in
    rw (p.1, p.2)
    (refused_later d top_faults (site_faults d ++ later) _ c.in_ok-judge_top.ensures
    (refused_here d (site_faults d) later _ c.in_err-sites.ensures.judges))

pub returns-in_err-entries : goal.returns-in_err-entries
returns-in_err-entries c =
    let d = view c.args.tree.now in
    let p = err_from_is_err_and c.from_residual-in_err-entries.result c.from_residual-in_err-entries.ensures.1 in
    rw (p.1, p.2) (refused_past_sites d _ c.in_ok-judge_top.ensures c.in_ok-sites.ensures.judges
    (refused_here d (process_faults d) (faults_from_names d) _
    c.in_err-entries.ensures.refused))

pub read_written-requires-clause-read : goal.read_written-requires-clause-read
read_written-requires-clause-read c = ap (map entry_view) c.deref.ensures.value ∙ c.in_ok-entries.ensures.read

pub returns : goal.returns
returns c =
    let d = view c.args.tree.now in
    let result = c.read_written.result in
    let later = faults_from_processes d in
    let read = c.in_ok-entries.ensures in
    let same = c.deref.ensures.value in
    built_later d top_faults (site_faults d ++ later) result c.in_ok-judge_top.ensures
    (built_later d (site_faults d) later result c.in_ok-sites.ensures.judges
    (c.read_written.ensures (ap (list_all (λ e. is_name (entry_view e).name)) same ∙ read.named)
    (read.left ∙ ap (λ es. option_map BadProcess (first_ill_named es)) (sym same))))
