mod Sanely
