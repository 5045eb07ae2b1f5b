-- The lines of scripts, as lists of words.
use Rattle.std.specs.Prelude.{ℕ, ◌^◌, Bool, true, false, List, [], ◌∷◌, ◌&&◌, ◌==◌, codes, nat_lt}
use Rattle.std.specs.List.{join_with_byte}
use Rattle.pt_model.specs.Numbers.{decimal, hexadecimal}
use Rattle.pt_model.specs.Text.{prot_text}
use Rattle.pt_model.specs.declared.command.Name.{Name}
use Rattle.pt_model.specs.declared.command.Name.TheVariants.{AmdV1, VtdSs3, VtdSs4, VtdSs5, X86L4, X86L5, Vmsa4, Vmsa16, Vmsa64, Sv39, Sv48, Sv57}
use Rattle.pt_model.specs.declared.command.What.{What}
use Rattle.pt_model.specs.declared.command.What.TheVariants as what
use Rattle.pt_model.specs.declared.command.AskWhat.{AskWhat}
use Rattle.pt_model.specs.declared.command.AskWhat.TheVariants as asked
use Rattle.pt_script.specs.declared.line.Keyword.{Keyword}
use Rattle.pt_script.specs.declared.line.Keyword.TheVariants.{Format, Frames, Hold, Map, Unmap, Lookup, Dump, Release, Fork, With, End, Close, Walk, Census}
use Rattle.pt_script.specs.declared.line.Line.{Line}
use Rattle.pt_script.specs.declared.line.Line.TheVariants as form

-- The formats.

abbrev pub name_text : Name → List ℕ
name_text AmdV1 = codes "amdv1"
name_text VtdSs3 = codes "vtdss3"
name_text VtdSs4 = codes "vtdss4"
name_text VtdSs5 = codes "vtdss5"
name_text X86L4 = codes "x86-4"
name_text X86L5 = codes "x86-5"
name_text Vmsa4 = codes "vmsa4"
name_text Vmsa16 = codes "vmsa16"
name_text Vmsa64 = codes "vmsa64"
name_text Sv39 = codes "sv39"
name_text Sv48 = codes "sv48"
name_text Sv57 = codes "sv57"

-- the levels of a format whose script doesn't state them; a script of amdv1 does, so that its number here is read by
-- nothing
abbrev pub levels_of : Name → ℕ
levels_of AmdV1 = 3
levels_of VtdSs3 = 3
levels_of VtdSs4 = 4
levels_of VtdSs5 = 5
levels_of X86L4 = 4
levels_of X86L5 = 5
levels_of Vmsa4 = 4
levels_of Vmsa16 = 4
levels_of Vmsa64 = 3
levels_of Sv39 = 3
levels_of Sv48 = 4
levels_of Sv57 = 5

-- the most frames of a space: 2 ^ 27 bytes of tables
abbrev pub frame_limit : Name → ℕ
frame_limit Vmsa16 = 8192
frame_limit Vmsa64 = 2048
frame_limit _ = 32768

-- The words of a line.

abbrev pub keyword_text : Keyword → List ℕ
keyword_text Format = codes "format"
keyword_text Frames = codes "frames"
keyword_text Hold = codes "hold"
keyword_text Map = codes "map"
keyword_text Unmap = codes "unmap"
keyword_text Lookup = codes "lookup"
keyword_text Dump = codes "dump"
keyword_text Release = codes "release"
keyword_text Fork = codes "fork"
keyword_text With = codes "with"
keyword_text End = codes "end"
keyword_text Close = codes "close"
keyword_text Walk = codes "walk"
keyword_text Census = codes "census"

abbrev pub keyword_of : Line → Keyword
keyword_of (form.Format name levels) = Format
keyword_of (form.Frames frames) = Frames
keyword_of (form.Hold hold) = Hold
keyword_of (form.Map va pa len prot) = Map
keyword_of (form.Unmap va len) = Unmap
keyword_of (form.Lookup va) = Lookup
keyword_of form.Dump = Dump
keyword_of form.Release = Release
keyword_of (form.Fork at) = Fork
keyword_of form.With = With
keyword_of form.End = End
keyword_of form.Close = Close
keyword_of (form.Walk va) = Walk
keyword_of form.Census = Census

-- the words of a format line after the first
abbrev pub format_operands : Name → (levels : ℕ) → List (List ℕ)
format_operands AmdV1 levels = codes "amdv1" ∷ codes "levels" ∷ decimal levels ∷ []
format_operands name levels = name_text name ∷ []

-- the words of a line after the first
abbrev pub operands : Line → List (List ℕ)
operands (form.Format name levels) = format_operands name levels
operands (form.Frames frames) = decimal frames ∷ []
operands (form.Hold hold) = decimal hold ∷ []
operands (form.Map va pa len prot) = hexadecimal va ∷ hexadecimal pa ∷ hexadecimal len ∷ prot_text prot ∷ []
operands (form.Unmap va len) = hexadecimal va ∷ hexadecimal len ∷ []
operands (form.Lookup va) = hexadecimal va ∷ []
operands (form.Fork at) = hexadecimal at ∷ []
operands (form.Walk va) = hexadecimal va ∷ []
operands _ = []

-- the text of a line, without its line feed: its words, with a space between each two
abbrev pub text_of : Line → List ℕ
text_of l = join_with_byte 32 (keyword_text (keyword_of l) ∷ operands l)

abbrev pub are_stated_levels : Name → ℕ → Bool
are_stated_levels AmdV1 levels = nat_lt levels (2 ^ 64)
are_stated_levels name levels = levels == levels_of name

-- whether a text can state the numbers of a line: each is below 2 ^ 64, and levels that it doesn't state are the format's
abbrev pub is_stated : Line → Bool
is_stated (form.Format name levels) = are_stated_levels name levels
is_stated (form.Frames frames) = nat_lt frames (2 ^ 64)
is_stated (form.Hold hold) = nat_lt hold (2 ^ 64)
is_stated (form.Map va pa len prot) = nat_lt va (2 ^ 64) && nat_lt pa (2 ^ 64) && nat_lt len (2 ^ 64)
is_stated (form.Unmap va len) = nat_lt va (2 ^ 64) && nat_lt len (2 ^ 64)
is_stated (form.Lookup va) = nat_lt va (2 ^ 64)
is_stated (form.Fork at) = nat_lt at (2 ^ 64)
is_stated (form.Walk va) = nat_lt va (2 ^ 64)
is_stated _ = true

-- the line of a command
abbrev pub command_line : What → Line
command_line (what.Map va pa len prot) = form.Map va pa len prot
command_line (what.Unmap va len) = form.Unmap va len
command_line (what.Lookup va) = form.Lookup va
command_line what.Dump = form.Dump
command_line what.Release = form.Release
command_line (what.Fork at) = form.Fork at
command_line what.With = form.With
command_line what.End = form.End

-- the line of what is asked after `close`
abbrev pub ask_line : AskWhat → Line
ask_line (asked.Walk va) = form.Walk va
ask_line asked.Census = form.Census

-- the lines that the limit on command lines counts
abbrev pub is_command : Line → Bool
is_command (form.Map va pa len prot) = true
is_command (form.Unmap va len) = true
is_command (form.Lookup va) = true
is_command form.Dump = true
is_command form.Release = true
is_command (form.Fork at) = true
is_command (form.Walk va) = true
is_command form.Census = true
is_command _ = false

abbrev pub is_dump : Line → Bool
is_dump form.Dump = true
is_dump _ = false
