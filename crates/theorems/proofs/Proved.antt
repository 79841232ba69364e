-- Each statement of the table, with its proof.
use Rattle.theorems.specs.Proved.{Proved}
use Rattle.theorems.proofs.Answers as answers
use Rattle.theorems.proofs.FixedWords as words
use Rattle.theorems.proofs.Views as views
use Rattle.theorems.proofs.Lines as lines
use Rattle.theorems.proofs.Joining as joins
use Rattle.theorems.proofs.NeverMet.{never_met, each_numbered}
use Rattle.theorems.proofs.AcceptedLayout as layouts
use Rattle.theorems.proofs.AcceptedComponents.{accepted_components}
use Rattle.theorems.proofs.Listing.{listing_fits}
use Rattle.theorems.proofs.Printed as prints
use Rattle.theorems.proofs.Refusals as refusals
use Rattle.theorems.proofs.Demand3 as demands
use Rattle.theorems.proofs.PassedPreset.{passed}
use Rattle.theorems.proofs.Premises as needs

pub proved : Proved
proved =
    record {
      answering =
          record {
            read_says = answers.read_says;
            validate_says = answers.validate_says;
            plan_says = answers.plan_says;
            plan_is_shown = answers.plan_is_shown;
            listing_says = answers.listing_says;
            one_answer = answers.one_answer;
            one_listing = answers.one_listing;
          };
      viewing =
          record {
            preset_shown = views.accepted_is_shown;
            plan_shown = views.plan_is_shown_by_views;
            word_written = words.word_is_written;
            words_short = words.words_are_short;
          };
      joining =
          record {
            carried_is_counted = joins.carried_is_counted;
            parts_are_within = joins.parts_are_within;
            parts_are_apart = joins.parts_are_apart;
            parts_are_the_lines = joins.parts_are_the_lines;
            part_settles = joins.part_settles_the_count;
          };
      accepting =
          record {
            no_line_is_blank = lines.no_line_is_blank;
            segments_are_names = lines.segments_are_names;
            no_key_twice = lines.no_key_twice;
            never_met = never_met;
            each_numbered = each_numbered;
            accepted_layout = layouts.accepted_layout;
            preset_layout = layouts.preset_layout;
            erase_block = layouts.erase_block;
            accepted_components = accepted_components;
            listing_fits = listing_fits;
          };
      planning =
          record {
            passed = passed;
            needs_no_semicolon = needs.needs_no_semicolon;
            needs_no_white_head = needs.needs_no_white_head;
            needs_no_white_end = needs.needs_no_white_end;
            open_needs_no_semicolon = needs.open_needs_no_semicolon;
            needs_one_set = needs.needs_one_set;
            refused_why = refusals.refused_why;
            why_refused = refusals.why_refused;
            else_planned = refusals.else_planned;
            demand = demands.demand;
            plan_size = demands.plan_size;
            plain_name = demands.plain_name;
            text_demand = demands.text_demand;
            text_refused = refusals.text_refused;
            refused_first = refusals.refused_first;
            refused_then = refusals.refused_then;
            accepted_anywhere = demands.accepted_anywhere;
          };
      printing =
          record {
            page_reads_back = prints.page_reads_back;
            line_reads_back = prints.line_reads_back;
            pages_only = prints.pages_only;
            lines_only = prints.lines_only;
            lines_apart = prints.lines_apart;
            pages_apart = prints.pages_apart;
            unquoted = prints.unquoted;
            quoted_string = prints.quoted_string;
            equal_lines = prints.equal_lines;
          };
    }
