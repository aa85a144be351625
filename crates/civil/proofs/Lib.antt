-- The civil calendar.
--     Tilings      calendars that label every instant, by the first instants of their granules
--     Shortest     their least periods, by a test of the common divisors of period and distance
--     Grouped      group of such a calendar
--     Altered      alter of the days by such a calendar
--     Answers      such an entry of a table is answered
--     Entries      where the granules of the table begin
--     Answered     the table is answered
--     Lengths      the granules of the months have the lengths of the rule
--     Dates        the dates of the rule, one for each instant
--     Civil        the months and years of the table are those of the rule
--     Instants     the instant of a date
--     Places       the day is the place in the month
--     Replies      the change from instants to dates and back
--     Asked        the reply to a date is the one that the rule gives
pub mod Tilings
pub mod Shortest
pub mod Grouped
pub mod Altered
pub mod Answers
pub mod Entries
pub mod Answered
pub mod Lengths
pub mod Dates
pub mod Civil
pub mod Instants
pub mod Places
pub mod Replies
pub mod Asked
