-- Dumps with a known meaning, by computation. In their texts ' stands for a double quote.
use Rattle.std.proofs.Common.{◌≡◌, ℕ, ◌+◌, ◌≤◌, List, [], ◌∷◌, ◌++◌, codes, map, None, Ok, Err, refl, subst, arith}
use Rattle.std.specs.Prelude.{replicate, ◌==◌, if◌then◌else◌}
use Rattle.std.specs.Str.{is_utf8, chars}
use Rattle.std.proofs.lemmas.List.{length-replicate, replicate-append-replicate}
use Rattle.serde_json.specs.Read.{read}
use Rattle.serde_json.proofs.OnLiterals.{serde_json_on_literals}
use Rattle.cmh_graph.specs.declared.part.State.TheVariants.{Idle, Active}
use Rattle.cmh_graph.specs.Graph.{Process}
use Rattle.cmh_dump.specs.declared.fault.DumpFault.{DumpFault}
use Rattle.cmh_dump.specs.declared.fault.DumpFault.TheVariants.{NotJson, BadTop, BadVersion, BadSites, RepeatedSite, BadProcess, RepeatedProcess, UnknownSite, UnknownDependent, RepeatedDependent, ActiveWithDependents, BadInTransit, UnknownInTransit}
use Rattle.cmh_dump.specs.declared.TheConstants.{MAX_BYTES}
use Rattle.cmh_dump.specs.Dump.{dump, dump_of_tree}
use Rattle.cmh_dump.proofs.Trees.{no_tree}
use Rattle.cmh_dump.proofs.FirstFault.Bytes.{no_json}

abbrev quoted : List ℕ → List ℕ
quoted text = map (λ c. if c == 39 then 34 else c) text

-- the text is refused for the fault
abbrev IsRefused : List ℕ → DumpFault → Type 0
IsRefused text fault = dump (quoted text) ≡ Err fault

-- the text means the graph of these processes and messages in transit
abbrev Means : List ℕ → List Process → List (ℕ × ℕ) → Type 0
Means text processes in_transit =
    dump (quoted text) ≡ Ok (record { processes = processes; in_transit = in_transit })

abbrev idle : List ℕ → ℕ → List ℕ → Process
idle name site dependents =
    record { name = name; site = site; state = Idle; dependents = dependents }

abbrev active : List ℕ → ℕ → Process
active name site = record { name = name; site = site; state = Active; dependents = [] }

-- a dump of version 1 with one site, `a`, and these processes
abbrev with_processes : List ℕ → List ℕ
with_processes processes =
    codes "{'version':1,'sites':['a'],'processes':[" ++ processes ++ codes "]}"

-- an idle process on site `a`, of this name, with these dependents
abbrev waiting : List ℕ → List ℕ → List ℕ
waiting name dependents =
    codes "{'name':'" ++ name ++ codes "','site':'a','state':'idle','dependents':["
    ++ dependents ++ codes "]}"

-- an active process on site `a`, of this name
abbrev running : List ℕ → List ℕ
running name = codes "{'name':'" ++ name ++ codes "','site':'a','state':'active'}"

-- two processes, each of which waits for the other
abbrev in_a_cycle : List ℕ
in_a_cycle = waiting (codes "p") (codes "'q'") ++ codes "," ++ waiting (codes "q") (codes "'p'")

abbrev cycle : List Process
cycle = idle (codes "p") 0 (1 ∷ []) ∷ idle (codes "q") 0 (0 ∷ []) ∷ []

-- a dump of version 2 of two processes in a cycle, with these messages in transit
abbrev with_messages : List ℕ → List ℕ
with_messages messages =
    codes "{'version':2,'sites':['a'],'processes':[" ++ in_a_cycle
    ++ codes "],'in_transit':" ++ messages ++ codes "}"

-- ---- accepted

two_in_a_cycle : Means (with_processes in_a_cycle) cycle []
unfolding dump dump_of_tree serde_json_on_literals is_utf8 chars
two_in_a_cycle = refl

empty : Means (codes "{'version':1,'sites':[],'processes':[]}") [] []
unfolding dump dump_of_tree serde_json_on_literals is_utf8 chars
empty = refl

waits_for_itself : Means (with_processes (waiting (codes "p") (codes "'p'"))) (idle (codes "p") 0 (0 ∷ []) ∷ []) []
unfolding dump dump_of_tree serde_json_on_literals is_utf8 chars
waits_for_itself = refl

waits_for_nobody : Means (with_processes (waiting (codes "p") [])) (idle (codes "p") 0 [] ∷ []) []
unfolding dump dump_of_tree serde_json_on_literals is_utf8 chars
waits_for_nobody = refl

active_process : Means (with_processes (running (codes "p"))) (active (codes "p") 0 ∷ []) []
unfolding dump dump_of_tree serde_json_on_literals is_utf8 chars
active_process = refl

active_with_empty_dependents : Means (with_processes (codes "{'name':'p','site':'a','state':'active','dependents':[]}"))
    (active (codes "p") 0 ∷ []) []
unfolding dump dump_of_tree serde_json_on_literals is_utf8 chars
active_with_empty_dependents = refl

-- the sites and the dependents keep their order
two_sites : Means
    (codes "{'version':1,'sites':['b','a'],'processes':[" ++ waiting (codes "p") (codes "'r','q'") ++ codes ","
    ++ running (codes "q") ++ codes ",{'name':'r','site':'b','state':'active'}]}")
    (idle (codes "p") 1 (2 ∷ 1 ∷ []) ∷ active (codes "q") 1 ∷ active (codes "r") 0 ∷ []) []
unfolding dump dump_of_tree serde_json_on_literals is_utf8 chars
two_sites = refl

name_of_64_bytes : Means (with_processes (running (replicate 64 120))) (active (replicate 64 120) 0 ∷ []) []
unfolding dump dump_of_tree serde_json_on_literals is_utf8 chars
name_of_64_bytes = refl

name_of_all_marks : Means (with_processes (running (codes "7_-.:/Z"))) (active (codes "7_-.:/Z") 0 ∷ []) []
unfolding dump dump_of_tree serde_json_on_literals is_utf8 chars
name_of_all_marks = refl

-- of a key that stands twice the last value counts
repeated_key : Means (codes "{'version':3,'sites':[],'processes':[],'version':1}") [] []
unfolding dump dump_of_tree serde_json_on_literals is_utf8 chars
repeated_key = refl

escaped_key : Means (codes "{'\\u0076ersion':1,'sites':[],'processes':[]}") [] []
unfolding dump dump_of_tree serde_json_on_literals is_utf8 chars
escaped_key = refl

escaped_name : Means (with_processes (running (codes "\\u0070"))) (active (codes "p") 0 ∷ []) []
unfolding dump dump_of_tree serde_json_on_literals is_utf8 chars
escaped_name = refl

space_at_the_end : Means (codes "{'version':1,'sites':[],'processes':[]} ") [] []
unfolding dump dump_of_tree serde_json_on_literals is_utf8 chars
space_at_the_end = refl

one_message : Means (with_messages (codes "[['q','p']]")) cycle ((1, 0) ∷ [])
unfolding dump dump_of_tree serde_json_on_literals is_utf8 chars
one_message = refl

no_messages : Means (with_messages (codes "[]")) cycle []
unfolding dump dump_of_tree serde_json_on_literals is_utf8 chars
no_messages = refl

-- a message may repeat, and may come from any process
repeated_message : Means (with_messages (codes "[['p','p'],['q','p'],['q','p']]")) cycle ((0, 0) ∷ (1, 0) ∷ (1, 0) ∷ [])
unfolding dump dump_of_tree serde_json_on_literals is_utf8 chars
repeated_message = refl

-- ---- no JSON

not_json_empty : IsRefused [] NotJson
unfolding dump dump_of_tree serde_json_on_literals is_utf8 chars
not_json_empty = refl

-- a dump of two processes in a cycle, without its last byte, is no JSON
not_json_cut_short : IsRefused (codes "{'version':1,'sites':['a'],'processes':[" ++ in_a_cycle ++ codes "]") NotJson
unfolding dump dump_of_tree serde_json_on_literals is_utf8 chars
not_json_cut_short = refl

not_json_byte_255 : IsRefused (255 ∷ []) NotJson
unfolding dump dump_of_tree serde_json_on_literals is_utf8 chars
not_json_byte_255 = refl

not_json_name_not_utf8 : IsRefused (with_processes (running (255 ∷ []))) NotJson
unfolding dump dump_of_tree serde_json_on_literals is_utf8 chars
not_json_name_not_utf8 = refl

not_json_byte_order_mark : IsRefused (239 ∷ 187 ∷ 191 ∷ codes "{'version':1,'sites':[],'processes':[]}") NotJson
unfolding dump dump_of_tree serde_json_on_literals is_utf8 chars
not_json_byte_order_mark = refl

not_json_byte_at_the_end : IsRefused (codes "{'version':1,'sites':[],'processes':[]}x") NotJson
unfolding dump dump_of_tree serde_json_on_literals is_utf8 chars
not_json_byte_at_the_end = refl

not_json_leading_zero : IsRefused (codes "{'version':01,'sites':[],'processes':[]}") NotJson
unfolding dump dump_of_tree serde_json_on_literals is_utf8 chars
not_json_leading_zero = refl

not_json_huge_number : IsRefused (codes "{'version':1e999,'sites':[],'processes':[]}") NotJson
unfolding dump dump_of_tree serde_json_on_literals is_utf8 chars
not_json_huge_number = refl

not_json_lone_surrogate : IsRefused (with_processes (running (codes "\\ud800"))) NotJson
unfolding dump dump_of_tree serde_json_on_literals is_utf8 chars
not_json_lone_surrogate = refl

-- 128 arrays in one another are nested too deep, whatever follows
deep : (rest : List ℕ) → read (replicate 128 91 ++ rest) ≡ None
unfolding serde_json_on_literals
deep rest = refl

too_deep : (n : ℕ) → 128 + n ≤ MAX_BYTES → dump (replicate (128 + n) 91) ≡ Err NotJson
too_deep n few =
    let none : read (replicate (128 + n) 91) ≡ None =
    subst (λ (bytes : List ℕ). read bytes ≡ None) (replicate-append-replicate 128 n 91) (deep (replicate n 91)) in
    no_json (replicate (128 + n) 91) (omega (arith, few, length-replicate {A = ℕ} (128 + n) 91))
    (no_tree (replicate (128 + n) 91) (λ is_text. none))

not_json_deep : dump (replicate 100000 91) ≡ Err NotJson
not_json_deep = too_deep 99872 (omega arith)

-- ---- the top

bad_top_array : IsRefused (codes "[]") BadTop
unfolding dump dump_of_tree serde_json_on_literals is_utf8 chars
bad_top_array = refl

bad_top_no_processes : IsRefused (codes "{'version':1,'sites':[]}") BadTop
unfolding dump dump_of_tree serde_json_on_literals is_utf8 chars
bad_top_no_processes = refl

bad_top_sites_no_array : IsRefused (codes "{'version':9,'sites':{},'processes':[]}") BadTop
unfolding dump dump_of_tree serde_json_on_literals is_utf8 chars
bad_top_sites_no_array = refl

bad_top_key_too_many : IsRefused (codes "{'version':1,'sites':[],'processes':[],'x':1}") BadTop
unfolding dump dump_of_tree serde_json_on_literals is_utf8 chars
bad_top_key_too_many = refl

bad_top_messages_in_version_1 : IsRefused (codes "{'version':1,'sites':[],'processes':[],'in_transit':[]}") BadTop
unfolding dump dump_of_tree serde_json_on_literals is_utf8 chars
bad_top_messages_in_version_1 = refl

bad_top_messages_in_version_3 : IsRefused (codes "{'version':3,'sites':[],'processes':[],'in_transit':[]}") BadTop
unfolding dump dump_of_tree serde_json_on_literals is_utf8 chars
bad_top_messages_in_version_3 = refl

bad_top_no_messages_in_version_2 : IsRefused
    (codes "{'version':2,'sites':['a'],'processes':[" ++ in_a_cycle ++ codes "]}") BadTop
unfolding dump dump_of_tree serde_json_on_literals is_utf8 chars
bad_top_no_messages_in_version_2 = refl

bad_top_messages_no_array : IsRefused (with_messages (codes "{}")) BadTop
unfolding dump dump_of_tree serde_json_on_literals is_utf8 chars
bad_top_messages_no_array = refl

-- ---- the version

bad_version_text : IsRefused (codes "{'version':'1','sites':[7],'processes':[]}") BadVersion
unfolding dump dump_of_tree serde_json_on_literals is_utf8 chars
bad_version_text = refl

bad_version_3 : IsRefused (codes "{'version':3,'sites':['a'],'processes':[" ++ in_a_cycle ++ codes "]}") BadVersion
unfolding dump dump_of_tree serde_json_on_literals is_utf8 chars
bad_version_3 = refl

bad_version_fraction : IsRefused (codes "{'version':1.0,'sites':['a'],'processes':[]}") BadVersion
unfolding dump dump_of_tree serde_json_on_literals is_utf8 chars
bad_version_fraction = refl

bad_version_exponent : IsRefused (codes "{'version':1e0,'sites':['a'],'processes':[]}") BadVersion
unfolding dump dump_of_tree serde_json_on_literals is_utf8 chars
bad_version_exponent = refl

-- ---- the sites

-- a bad name of a site is a fault before one that repeats
bad_site_before_repeated : IsRefused (codes "{'version':1,'sites':['a','a','b c'],'processes':[]}") (BadSites 2)
unfolding dump dump_of_tree serde_json_on_literals is_utf8 chars
bad_site_before_repeated = refl

-- a fault of the sites comes before one of the processes
repeated_site_before_processes : IsRefused (codes "{'version':1,'sites':['b','a','a'],'processes':[7]}")
    (RepeatedSite 2)
unfolding dump dump_of_tree serde_json_on_literals is_utf8 chars
repeated_site_before_processes = refl

-- ---- the processes

-- a process that is written badly comes before one that names an unknown site
bad_process_before_unknown_site : IsRefused (with_processes (codes "{'name':'p','site':'z','state':'active'},7"))
    (BadProcess 1)
unfolding dump dump_of_tree serde_json_on_literals is_utf8 chars
bad_process_before_unknown_site = refl

bad_process_idle_without_dependents : IsRefused (with_processes (codes "{'name':'p','site':'a','state':'idle'}"))
    (BadProcess 0)
unfolding dump dump_of_tree serde_json_on_literals is_utf8 chars
bad_process_idle_without_dependents = refl

bad_process_null_dependents : IsRefused
    (with_processes (codes "{'name':'p','site':'a','state':'active','dependents':null}")) (BadProcess 0)
unfolding dump dump_of_tree serde_json_on_literals is_utf8 chars
bad_process_null_dependents = refl

bad_process_state : IsRefused (with_processes (codes "{'name':'p','site':'a','state':'asleep','dependents':[]}"))
    (BadProcess 0)
unfolding dump dump_of_tree serde_json_on_literals is_utf8 chars
bad_process_state = refl

bad_process_key_too_many : IsRefused (with_processes (codes "{'name':'p','site':'a','state':'active','x':1}"))
    (BadProcess 0)
unfolding dump dump_of_tree serde_json_on_literals is_utf8 chars
bad_process_key_too_many = refl

bad_process_name_of_65_bytes : IsRefused (with_processes (running (replicate 65 120))) (BadProcess 0)
unfolding dump dump_of_tree serde_json_on_literals is_utf8 chars
bad_process_name_of_65_bytes = refl

bad_process_name_empty : IsRefused (with_processes (running [])) (BadProcess 0)
unfolding dump dump_of_tree serde_json_on_literals is_utf8 chars
bad_process_name_empty = refl

bad_process_name_with_a_dash_first : IsRefused (with_processes (running (codes "-x"))) (BadProcess 0)
unfolding dump dump_of_tree serde_json_on_literals is_utf8 chars
bad_process_name_with_a_dash_first = refl

bad_process_name_with_an_accent : IsRefused (with_processes (running (195 ∷ 169 ∷ []))) (BadProcess 0)
unfolding dump dump_of_tree serde_json_on_literals is_utf8 chars
bad_process_name_with_an_accent = refl

bad_process_name_with_a_space : IsRefused (with_processes (running (codes "a b"))) (BadProcess 0)
unfolding dump dump_of_tree serde_json_on_literals is_utf8 chars
bad_process_name_with_a_space = refl

bad_process_before_repeated : IsRefused
    (with_processes (running (codes "p") ++ codes "," ++ running (codes "p") ++ codes ",7")) (BadProcess 2)
unfolding dump dump_of_tree serde_json_on_literals is_utf8 chars
bad_process_before_repeated = refl

repeated_process_before_unknown_site : IsRefused
    (with_processes (codes "{'name':'p','site':'z','state':'active'}," ++ running (codes "p"))) (RepeatedProcess 1)
unfolding dump dump_of_tree serde_json_on_literals is_utf8 chars
repeated_process_before_unknown_site = refl

repeated_process_before_unknown_dependent : IsRefused
    (with_processes (waiting (codes "p") (codes "'x'") ++ codes "," ++ waiting (codes "p") [])) (RepeatedProcess 1)
unfolding dump dump_of_tree serde_json_on_literals is_utf8 chars
repeated_process_before_unknown_dependent = refl

unknown_site_before_unknown_dependent : IsRefused
    (with_processes (codes "{'name':'p','site':'z','state':'idle','dependents':['x']}")) (UnknownSite 0)
unfolding dump dump_of_tree serde_json_on_literals is_utf8 chars
unknown_site_before_unknown_dependent = refl

repeated_dependent : IsRefused
    (with_processes (waiting (codes "p") (codes "'q','q'") ++ codes "," ++ waiting (codes "q") []))
    (RepeatedDependent 0 1)
unfolding dump dump_of_tree serde_json_on_literals is_utf8 chars
repeated_dependent = refl

unknown_dependent : IsRefused
    (with_processes (waiting (codes "p") (codes "'x','q','q'") ++ codes "," ++ waiting (codes "q") []))
    (UnknownDependent 0 0)
unfolding dump dump_of_tree serde_json_on_literals is_utf8 chars
unknown_dependent = refl

-- an unknown dependent of any process comes before a repeated one of any
unknown_dependent_before_repeated : IsRefused
    (with_processes (waiting (codes "p") (codes "'q','q'") ++ codes "," ++ waiting (codes "q") (codes "'p','x'")))
    (UnknownDependent 1 1)
unfolding dump dump_of_tree serde_json_on_literals is_utf8 chars
unknown_dependent_before_repeated = refl

repeated_dependent_before_active : IsRefused
    (with_processes
    (codes "{'name':'p','site':'a','state':'active','dependents':['q']}," ++ waiting (codes "q") (codes "'p','p'")))
    (RepeatedDependent 1 1)
unfolding dump dump_of_tree serde_json_on_literals is_utf8 chars
repeated_dependent_before_active = refl

active_with_dependents : IsRefused
    (with_processes (codes "{'name':'p','site':'a','state':'active','dependents':['q']}," ++ waiting (codes "q") []))
    (ActiveWithDependents 0)
unfolding dump dump_of_tree serde_json_on_literals is_utf8 chars
active_with_dependents = refl

-- ---- the messages in transit

-- a fault of the processes comes before one of the messages in transit
active_with_dependents_before_messages : IsRefused
    (codes "{'version':2,'sites':['a'],'processes':[{'name':'p','site':'a','state':'active','dependents':['p']}],"
    ++ codes "'in_transit':[7]}")
    (ActiveWithDependents 0)
unfolding dump dump_of_tree serde_json_on_literals is_utf8 chars
active_with_dependents_before_messages = refl

-- a message that is written badly comes before one that names an unknown process
bad_message_before_unknown : IsRefused (with_messages (codes "[['x','p'],['p']]")) (BadInTransit 1)
unfolding dump dump_of_tree serde_json_on_literals is_utf8 chars
bad_message_before_unknown = refl

bad_message_no_text : IsRefused (with_messages (codes "[['p',1]]")) (BadInTransit 0)
unfolding dump dump_of_tree serde_json_on_literals is_utf8 chars
bad_message_no_text = refl

bad_message_of_three : IsRefused (with_messages (codes "[['q','p'],['q','p','p']]")) (BadInTransit 1)
unfolding dump dump_of_tree serde_json_on_literals is_utf8 chars
bad_message_of_three = refl

bad_message_no_array : IsRefused (with_messages (codes "[7]")) (BadInTransit 0)
unfolding dump dump_of_tree serde_json_on_literals is_utf8 chars
bad_message_no_array = refl

unknown_receiver : IsRefused (with_messages (codes "[['p','q'],['p','x']]")) (UnknownInTransit 1)
unfolding dump dump_of_tree serde_json_on_literals is_utf8 chars
unknown_receiver = refl

unknown_sender : IsRefused (with_messages (codes "[['x','p']]")) (UnknownInTransit 0)
unfolding dump dump_of_tree serde_json_on_literals is_utf8 chars
unknown_sender = refl
