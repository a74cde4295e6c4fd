use Rattle.std.proofs.Common.{◌≡◌, ◌∙◌, ◌++◌, ◌∷◌, [], ap}
use Rattle.std.specs.Prelude.{codes, decimal, string_bytes}
use Rattle.cmh_text.specs.Report.{names_of, names_or_dash, spaced_words}
use Rattle.cmh_text.specs.Processes.{Processes}
use Rattle.cmh_text.proofs.LineLemmas.{group_pieces}
use Rattle.cmh_text.proofs.lines.push_group.Goals as goal

pub returns-clause-text : goal.returns-clause-text
returns-clause-text c =
    let g = c.args.last.now.graph in
    let shown = ap (λ (w : Processes). w.graph) c.last.view_is in
    let core = c.in_ok-push_names.ensures
    ∙ (λ i. string_bytes c.write.new.self ++ spaced_words (names_of (shown i) (c.deref-2.ensures.value i))) in
    let rest = c.in_ok-push_names_or_dash.ensures.text
    ∙ ap (λ ps. string_bytes c.push_str.new.self ++ spaced_words (names_or_dash g ps)) c.deref-3.ensures.value in
    let front = codes "group " ++ (decimal c.args.number ++ codes " |") in
    let first : string_bytes c.write.new.self ≡ string_bytes c.args.text.now ++ front =
    c.in_ok-write.ensures.bytes ∙ ap (λ xs. xs ++ front) c.prepare_text.ensures in
    let bar : string_bytes c.push_str.new.self ≡ string_bytes c.push_names.new.text ++ codes " |" =
    c.in_ok-push_str.ensures.bytes in
    let last : string_bytes c.write-2.new.self
    ≡ string_bytes c.push_names_or_dash.new.text
    ++ (codes " | sites " ++ (decimal c.args.group.now.site_count ++ 10 ∷ [])) = c.in_ok-write-2.ensures.bytes in
    group_pieces _ _ _ _ _ _ _ _ _ _ first core bar rest last
